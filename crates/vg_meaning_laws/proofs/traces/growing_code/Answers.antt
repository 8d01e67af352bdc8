use Rattle.vg_meaning_laws.proofs.Grows.{grows_performed}
use Rattle.vg_meaning_laws.proofs.traces.growing_code.Goals as goal

pub returns : goal.returns
returns g c = λ r test step h code. grows_performed r test step h code
