use Rattle.vg_meaning_laws.proofs.Same.{same_loop}
use Rattle.vg_meaning_laws.proofs.equivalence.loops.Goals as goal

pub returns : goal.returns
returns g c = λ r c1 d body next body' next' hc hb hn. same_loop r c1 d body next body' next' hc hb hn
