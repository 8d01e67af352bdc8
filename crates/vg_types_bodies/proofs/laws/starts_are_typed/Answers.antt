use Rattle.vg_types_bodies.proofs.Routines.{start_typed}
use Rattle.vg_types_bodies.proofs.laws.starts_are_typed.Goals as goal

pub returns : goal.returns
returns c = start_typed
