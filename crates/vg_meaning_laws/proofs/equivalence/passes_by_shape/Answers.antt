use Rattle.vg_meaning_laws.proofs.Same.{same_performed}
use Rattle.vg_meaning_laws.proofs.equivalence.passes_by_shape.Goals as goal

pub returns : goal.returns
returns g c = λ r step test step' test' move h k e looped code x y. same_performed r step test step' test' move _ _ _ h k e looped code x y
