use Rattle.vg_meaning_laws.proofs.Same.{same_across}
use Rattle.vg_meaning_laws.proofs.equivalence.composition.Goals as goal

pub returns : goal.returns
returns g c = λ a b d p q. same_across p q
