use Rattle.vg_meaning_laws.proofs.Spent.{spent_opened, spent_returned}
use Rattle.vg_meaning_laws.proofs.spent_clock.spent_calls.Goals as goal

pub returns-clause-opened : goal.returns-clause-opened
returns-clause-opened g c = λ r call n p k. spent_opened r call n p k

pub returns-clause-returned : goal.returns-clause-returned
returns-clause-returned g c = λ n m a p le h k. spent_returned n m a p le h k
