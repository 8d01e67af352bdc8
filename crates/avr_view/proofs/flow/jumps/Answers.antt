use Rattle.avr_view.proofs.JumpSteps.{goes_jmp, goes_rjmp, goes_ijmp}
use Rattle.avr_view.proofs.flow.jumps.Goals as goal

pub returns-clause-jmp : goal.returns-clause-jmp
returns-clause-jmp c = λ e. goes_jmp e ⊥

pub returns-clause-rjmp : goal.returns-clause-rjmp
returns-clause-rjmp c = λ e. goes_rjmp e ⊥

pub returns-clause-ijmp : goal.returns-clause-ijmp
returns-clause-ijmp c = λ e. goes_ijmp e ⊥
