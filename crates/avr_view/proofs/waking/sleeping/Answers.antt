use Rattle.avr_view.proofs.WakingSteps.{ends_idle, goes_wake}
use Rattle.avr_view.proofs.waking.sleeping.Goals as goal

pub returns-clause-idle : goal.returns-clause-idle
returns-clause-idle c = λ e. ends_idle e ⊥

pub returns-clause-wake : goal.returns-clause-wake
returns-clause-wake c = λ e pc v s a sei sleep low idle k ks some front. goes_wake e _ pc v s a sei sleep low idle k ks some front (λ full. full)
