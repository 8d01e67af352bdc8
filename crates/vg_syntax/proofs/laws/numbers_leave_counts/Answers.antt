use Rattle.vg_syntax.proofs.Numbering.{count_numbered, code_numbered}
use Rattle.vg_syntax.proofs.laws.numbers_leave_counts.Goals as goal

pub returns-clause-nodes : goal.returns-clause-nodes
returns-clause-nodes c = count_numbered

pub returns-clause-code : goal.returns-clause-code
returns-clause-code c = code_numbered
