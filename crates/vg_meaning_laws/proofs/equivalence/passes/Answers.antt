use Rattle.vg_meaning_laws.proofs.Same.{same_replaced}
use Rattle.vg_meaning_laws.proofs.equivalence.passes.Goals as goal

pub returns : goal.returns
returns g c = λ r step test step' test' move h k code. same_replaced r step test step' test' move _ h k code
