use Rattle.vg_read_statements.proofs.OtherShapes.{not_while}
use Rattle.vg_read_statements.proofs.statements.statement_of_three.Goals as goal

pub returns-in_default : goal.returns-in_default
returns-in_default c texts = rw (not_while _ _ _ _ c.in_default.not-While c.in_default.not-Return) (c.for_of.ensures texts)
