use Rattle.vg_lines.proofs.Walks.{ends_cr, ends_not_cr}
use Rattle.std.proofs.Common.{refl}
use Rattle.vg_lines.proofs.line.without_cr.Goals as goal

pub returns-then-line-last-eq13 : goal.returns-then-line-last-eq13
returns-then-line-last-eq13 c = ends_cr _ _ refl c.if-line-last-eq13.true

pub returns-else-line-last-eq13 : goal.returns-else-line-last-eq13
returns-else-line-last-eq13 c = ends_not_cr _ _ refl c.if-line-last-eq13.false
