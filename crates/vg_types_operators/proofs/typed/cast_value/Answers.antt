use Rattle.vg_core.specs.Typing.{t_cast}
use Rattle.vg_types_operators.proofs.typed.cast_value.Goals as goal

pub returns-clause-typed : goal.returns-clause-typed
returns-clause-typed c = λ o x s. t_cast (c.can_cast.ensures.typed c.if-not-can_cast.false (c.is_target.ensures c.if-not-is_target.false))
