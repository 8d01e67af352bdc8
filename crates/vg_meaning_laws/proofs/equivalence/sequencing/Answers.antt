use Rattle.vg_meaning_laws.proofs.Same.{same_then}
use Rattle.vg_meaning_laws.proofs.equivalence.sequencing.Goals as goal

pub returns : goal.returns
returns g c = λ a b f h p k. same_then f h p k
