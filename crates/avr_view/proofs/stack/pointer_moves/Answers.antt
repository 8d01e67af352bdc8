use Rattle.avr_view.proofs.StackSteps.{goes_in_spl, goes_in_sph, goes_lower, goes_raise}
use Rattle.avr_view.proofs.stack.pointer_moves.Goals as goal

pub returns-clause-in_low : goal.returns-clause-in_low
returns-clause-in_low c = λ e. goes_in_spl e ⊥

pub returns-clause-in_high : goal.returns-clause-in_high
returns-clause-in_high c = λ e. goes_in_sph e ⊥

pub returns-clause-lower : goal.returns-clause-lower
returns-clause-lower c = λ e pc v s a h l n high low room is few. goes_lower e _ pc v s a h l n high low room is few (λ full. full)

pub returns-clause-raise : goal.returns-clause-raise
returns-clause-raise c = λ e. goes_raise e ⊥
