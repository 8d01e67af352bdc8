use Rattle.vg_meaning_laws.proofs.Longer.{longer_opened, longer_returned}
use Rattle.vg_meaning_laws.proofs.more_clock.longer_calls.Goals as goal

pub returns-clause-opened : goal.returns-clause-opened
returns-clause-opened g c = λ d r call p q k e. longer_opened d r call p q k e

pub returns-clause-returned : goal.returns-clause-returned
returns-clause-returned g c = λ d a b p q h k e. longer_returned d a b p q h k e
