use Rattle.vg_calls_named.proofs.Whole.{cycle, cycle_there, none, spent}
use Rattle.vg_calls_named.proofs.laws.typed_calls_are_those_of_texts.Goals as goal

pub returns-clause-spent : goal.returns-clause-spent
returns-clause-spent c = λ texts text p same good tell written h typed bytes a. spent texts text p same good tell written h typed.0 typed.1 bytes a

pub returns-clause-none : goal.returns-clause-none
returns-clause-none c = λ texts text p same good tell written h typed a. none texts text p same good tell written h typed.0 typed.1 a

pub returns-clause-cycle : goal.returns-clause-cycle
returns-clause-cycle c = λ texts text p same good tell written h typed methods a. cycle texts text p same good tell written h typed.0 typed.1 methods a

pub returns-clause-there : goal.returns-clause-there
returns-clause-there c = λ texts text p same good tell written h typed methods a.
    cycle_there texts text p same good tell written h typed.0 typed.1 methods a
