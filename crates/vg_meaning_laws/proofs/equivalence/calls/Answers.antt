use Rattle.vg_meaning_laws.proofs.Same.{same_opened, same_returned, same_nowhere}
use Rattle.vg_meaning_laws.proofs.equivalence.calls.Goals as goal

pub returns-clause-opened : goal.returns-clause-opened
returns-clause-opened g c = λ r call f h k. same_opened r call f h k

pub returns-clause-returned : goal.returns-clause-returned
returns-clause-returned g c = λ a b f h p k e. same_returned f h p k e

pub returns-clause-nowhere : goal.returns-clause-nowhere
returns-clause-nowhere g c = λ a b p. same_nowhere _ a b p
