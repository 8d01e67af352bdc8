use Rattle.avr_view.proofs.JumpSteps.{goes_brbs, goes_brbc}
use Rattle.avr_view.proofs.flow.branches.Goals as goal

pub returns-clause-set : goal.returns-clause-set
returns-clause-set c = λ e. goes_brbs e ⊥

pub returns-clause-clear : goal.returns-clause-clear
returns-clause-clear c = λ e. goes_brbc e ⊥
