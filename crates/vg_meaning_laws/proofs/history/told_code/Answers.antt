use Rattle.vg_meaning_laws.proofs.Told.{told_performed}
use Rattle.vg_meaning_laws.proofs.history.told_code.Goals as goal

pub returns : goal.returns
returns g c = λ f r q t test step step' h code. told_performed f r q t test step step' h code
