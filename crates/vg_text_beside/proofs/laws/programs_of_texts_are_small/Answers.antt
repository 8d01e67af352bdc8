use Rattle.vg_text_beside.proofs.Beside.{few_methods, few_parameters, few_arguments}
use Rattle.vg_text_beside.proofs.laws.programs_of_texts_are_small.Goals as goal

pub returns-clause-methods : goal.returns-clause-methods
returns-clause-methods c = λ texts tree p is legal. few_methods texts tree p is legal

pub returns-clause-parameters : goal.returns-clause-parameters
returns-clause-parameters c = λ texts tree p is legal. few_parameters texts tree p is legal

pub returns-clause-arguments : goal.returns-clause-arguments
returns-clause-arguments c = λ texts tree p is legal. few_arguments texts tree p is legal
