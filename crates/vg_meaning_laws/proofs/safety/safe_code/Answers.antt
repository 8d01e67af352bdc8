use Rattle.vg_meaning_laws.proofs.Safe.{safe_performed}
use Rattle.vg_meaning_laws.proofs.safety.safe_code.Goals as goal

pub returns : goal.returns
returns g c = λ r step test ticks steps tests results looped code x y. safe_performed r step test _ _ _ _ ticks steps tests results looped code x y
