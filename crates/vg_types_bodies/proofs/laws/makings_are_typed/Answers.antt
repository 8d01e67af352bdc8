use Rattle.vg_types_bodies.proofs.Routines.{making_typed}
use Rattle.vg_types_bodies.proofs.laws.makings_are_typed.Goals as goal

pub returns : goal.returns
returns c = making_typed
