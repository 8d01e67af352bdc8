use Rattle.avr_view.proofs.JumpSteps.{ends_rjmp, ends_jmp}
use Rattle.avr_view.proofs.flow.stops.Goals as goal

pub returns-clause-rjmp : goal.returns-clause-rjmp
returns-clause-rjmp c = λ e. ends_rjmp e ⊥

pub returns-clause-jmp : goal.returns-clause-jmp
returns-clause-jmp c = λ e. ends_jmp e ⊥
