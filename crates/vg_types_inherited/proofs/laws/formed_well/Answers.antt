use Rattle.vg_types_inherited.proofs.Dispatching.{well_formed}
use Rattle.vg_types_inherited.proofs.laws.formed_well.Goals as goal

pub returns : goal.returns
returns c = well_formed
