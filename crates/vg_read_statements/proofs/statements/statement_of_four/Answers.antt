use Rattle.vg_read_statements.proofs.OtherShapes.{not_if}
use Rattle.vg_read_statements.proofs.statements.statement_of_four.Goals as goal

pub returns-in-If : goal.returns-in-If
returns-in-If c texts h = rw c.in-If.is (c.if_of.ensures texts)

pub returns-in_default : goal.returns-in_default
returns-in_default c texts h = rw (not_if _ _ _ _ _ c.in_default.not-If, ← c.param_in.ensures texts h, ← c.node_in.ensures texts) (c.local.ensures texts)
