use Rattle.vg_meaning_laws.proofs.Longer.{longer_performed}
use Rattle.vg_meaning_laws.proofs.more_clock.longer_code.Goals as goal

pub returns : goal.returns
returns g c = λ d r test step step' h e code. longer_performed d r test step step' h e code
