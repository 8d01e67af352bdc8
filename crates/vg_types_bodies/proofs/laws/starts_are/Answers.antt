use Rattle.vg_types_bodies.proofs.Routines.{start_is}
use Rattle.vg_types_bodies.proofs.laws.starts_are.Goals as goal

pub returns : goal.returns
returns c = λ texts root d. start_is texts root d
