use Rattle.vg_fair.proofs.Fair.{alike_returned}
use Rattle.vg_fair.proofs.laws.fair_returns.Goals as goal

pub returns : goal.returns
returns g c = λ a b f h p k e. alike_returned f h p k e
