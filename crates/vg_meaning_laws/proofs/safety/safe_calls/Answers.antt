use Rattle.vg_meaning_laws.proofs.Safe.{safe_opened, safe_returned}
use Rattle.vg_meaning_laws.proofs.safety.safe_calls.Goals as goal

pub returns-clause-opened : goal.returns-clause-opened
returns-clause-opened g c = λ r call p opens spent deep closes k. safe_opened _ _ _ _ _ _ r call p opens spent deep closes k

pub returns-clause-returned : goal.returns-clause-returned
returns-clause-returned g c = λ a p h k returns breaks continues over. safe_returned _ _ _ _ _ a p h k returns breaks continues over
