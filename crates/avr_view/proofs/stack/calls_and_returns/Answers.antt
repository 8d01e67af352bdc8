use Rattle.avr_view.proofs.CallSteps.{goes_call, goes_rcall, goes_icall, goes_ret}
use Rattle.avr_view.proofs.stack.calls_and_returns.Goals as goal

pub returns-clause-call : goal.returns-clause-call
returns-clause-call c = λ e pc v s a k at room. goes_call e _ pc v s a k at room (λ full. full)

pub returns-clause-rcall : goal.returns-clause-rcall
returns-clause-rcall c = λ e pc v s a k at room. goes_rcall e _ pc v s a k at room (λ full. full)

pub returns-clause-icall : goal.returns-clause-icall
returns-clause-icall c = λ e pc v s a at room. goes_icall e _ pc v s a at room (λ full. full)

pub returns-clause-ret : goal.returns-clause-ret
returns-clause-ret c = λ e. goes_ret e ⊥
