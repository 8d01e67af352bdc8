use Rattle.vg_meaning_laws.proofs.Same.{same_interrupt, same_idles}
use Rattle.vg_meaning_laws.proofs.equivalence.interrupts.Goals as goal

pub returns-clause-taken : goal.returns-clause-taken
returns-clause-taken g c = λ f h k. same_interrupt f h k

pub returns-clause-idle : goal.returns-clause-idle
returns-clause-idle g c = λ n f h k. same_idles n f h k
