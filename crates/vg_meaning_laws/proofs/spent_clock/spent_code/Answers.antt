use Rattle.vg_meaning_laws.proofs.Spent.{spent_performed}
use Rattle.vg_meaning_laws.proofs.spent_clock.spent_code.Goals as goal

pub returns : goal.returns
returns g c = λ r n test step h code. spent_performed r n test step h code
