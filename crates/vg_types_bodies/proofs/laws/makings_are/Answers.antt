use Rattle.vg_types_bodies.proofs.Routines.{making_is}
use Rattle.vg_types_bodies.proofs.laws.makings_are.Goals as goal

pub returns : goal.returns
returns c = λ texts root d. making_is texts root d
