use Rattle.vg_first_laws.proofs.Texts.{first_is_text, first_has_no_fault, first_is_not_deep}
use Rattle.vg_first_laws.proofs.parsing.constants_are_texts.Goals as goal

pub returns-clause-text : goal.returns-clause-text
returns-clause-text c = first_is_text

pub returns-clause-no_fault : goal.returns-clause-no_fault
returns-clause-no_fault c = first_has_no_fault

pub returns-clause-not_deep : goal.returns-clause-not_deep
returns-clause-not_deep c = first_is_not_deep
