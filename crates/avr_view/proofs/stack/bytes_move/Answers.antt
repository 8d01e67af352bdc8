use Rattle.avr_view.proofs.StackSteps.{goes_push, goes_pop}
use Rattle.avr_view.proofs.stack.bytes_move.Goals as goal

pub returns-clause-push : goal.returns-clause-push
returns-clause-push c = λ e pc v s a d at room. goes_push e _ pc v s a d at room (λ full. full)

pub returns-clause-pop : goal.returns-clause-pop
returns-clause-pop c = λ e. goes_pop e ⊥
