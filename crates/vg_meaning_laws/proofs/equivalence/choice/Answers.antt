use Rattle.vg_meaning_laws.proofs.Same.{same_choose}
use Rattle.vg_meaning_laws.proofs.equivalence.choice.Goals as goal

pub returns : goal.returns
returns g c = λ x y f f' h h' e k k' s t w. same_choose x y f f' h h' e k k' s t w
