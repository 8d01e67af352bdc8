use Rattle.vg_lines.proofs.Walks.{ended_line, last_line}
use Rattle.vg_lines.proofs.line.first_line.Goals as goal

pub returns-then-end-text-clause-lines : goal.returns-then-end-text-clause-lines
returns-then-end-text-clause-lines c = ended_line _ _ _ c.before_lf-end.ensures.count c.if-end-text.true c.without_cr.ensures

pub returns-else-end-text-clause-lines : goal.returns-else-end-text-clause-lines
returns-else-end-text-clause-lines c = last_line _ _ c.requires c.before_lf-end.ensures.count c.if-end-text.false
