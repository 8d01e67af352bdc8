use Rattle.vg_types_bodies.proofs.Routines.{method_is}
use Rattle.vg_types_bodies.proofs.laws.methods_are.Goals as goal

pub returns : goal.returns
returns c = λ texts root d. method_is texts root d
