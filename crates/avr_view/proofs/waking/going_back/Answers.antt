use Rattle.avr_view.proofs.WakingSteps.{goes_reti_cli}
use Rattle.avr_view.proofs.waking.going_back.Goals as goal

pub returns : goal.returns
returns c = λ e. goes_reti_cli e ⊥
