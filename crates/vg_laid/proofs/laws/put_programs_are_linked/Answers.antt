use Rattle.vg_laid.proofs.Within.{all_within}
use Rattle.vg_laid.proofs.Leading.{procedure_linked}
use Rattle.vg_laid.proofs.Stubs.{are_codes}
use Rattle.vg_laid.proofs.laws.put_programs_are_linked.Goals as goal

pub returns-clause-within : goal.returns-clause-within
returns-clause-within c = all_within

pub returns-clause-linked : goal.returns-clause-linked
returns-clause-linked c = procedure_linked

pub returns-clause-codes : goal.returns-clause-codes
returns-clause-codes c = are_codes
