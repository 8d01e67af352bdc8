use Rattle.vg_types_declared.proofs.Standing.{stands}
use Rattle.vg_types_declared.proofs.laws.places_agree.Goals as goal

pub returns : goal.returns
returns c = stands
