use Rattle.vg_meaning_laws.proofs.Same.{same_over, same_stops}
use Rattle.vg_meaning_laws.proofs.equivalence.ends.Goals as goal

pub returns-clause-over : goal.returns-clause-over
returns-clause-over g c = λ why. same_over _ _ _ why

pub returns-clause-stops : goal.returns-clause-stops
returns-clause-stops g c = λ code at. same_stops _ _ _ code at
