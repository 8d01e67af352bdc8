use Rattle.std.proofs.Common.{sym, ◌∙◌}
use Rattle.vg_read_statements.proofs.Assigning.{evaluated, assigned_to}
use Rattle.vg_read_statements.proofs.statements.assigned.Goals as goal

pub returns-then-is_nothing : goal.returns-then-is_nothing
returns-then-is_nothing c texts = rw c.in_ok-target.ensures.ok (sym (evaluated _ _ _ (sym (c.is_nothing.ensures texts) ∙ c.if-is_nothing.true)))

pub returns : goal.returns
returns c texts = rw (c.in_ok-target.ensures.ok, c.in_ok-right.ensures.ok) (sym (assigned_to _ _ _ (sym (c.is_nothing.ensures texts) ∙ c.if-is_nothing.false)))
