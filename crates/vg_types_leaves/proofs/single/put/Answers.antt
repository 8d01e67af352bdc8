use Rattle.vg_core.specs.Typing.{t_put}
use Rattle.vg_types_leaves.proofs.single.put.Goals as goal

pub leaf-requires-clause-typed : goal.leaf-requires-clause-typed
leaf-requires-clause-typed c = λ o x s. t_put c.requires.typed
