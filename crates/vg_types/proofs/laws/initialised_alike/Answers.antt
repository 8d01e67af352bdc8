use Rattle.vg_types.proofs.Alike.{initialised}
use Rattle.vg_types.proofs.laws.initialised_alike.Goals as goal

pub returns : goal.returns
returns c = initialised
