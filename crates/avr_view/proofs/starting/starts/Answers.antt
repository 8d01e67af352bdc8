use Rattle.avr_view.proofs.StartSteps.{goes_started}
use Rattle.avr_view.proofs.starting.starts.Goals as goal

pub returns : goal.returns
returns c = λ e. goes_started e ⊥
