use Rattle.vg_meaning_laws.proofs.Same.{same_unless, same_ticked}
use Rattle.vg_meaning_laws.proofs.equivalence.limits_and_ticks.Goals as goal

pub returns-clause-limit : goal.returns-clause-limit
returns-clause-limit g c = λ b why f h k. same_unless b why f h k

pub returns-clause-tick : goal.returns-clause-tick
returns-clause-tick g c = λ r f h k. same_ticked r f h k
