use Rattle.vg_texts.proofs.Once.{no_fault, not_deep, one_cause, one_end, one_bracket}
use Rattle.vg_texts.proofs.laws.one_answer.Goals as goal

pub returns-clause-no_fault : goal.returns-clause-no_fault
returns-clause-no_fault c = no_fault

pub returns-clause-not_deep : goal.returns-clause-not_deep
returns-clause-not_deep c = not_deep

pub returns-clause-one_cause : goal.returns-clause-one_cause
returns-clause-one_cause c = one_cause

pub returns-clause-one_end : goal.returns-clause-one_end
returns-clause-one_end c = one_end

pub returns-clause-one_bracket : goal.returns-clause-one_bracket
returns-clause-one_bracket c = one_bracket
