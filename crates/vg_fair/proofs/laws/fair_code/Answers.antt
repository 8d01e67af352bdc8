use Rattle.vg_fair.proofs.Fair.{alike_performed}
use Rattle.vg_fair.proofs.laws.fair_code.Goals as goal

pub returns : goal.returns
returns g c = λ r step test step' test' move h k e looped code x y. alike_performed r step test step' test' move _ _ _ h k e looped code x y
