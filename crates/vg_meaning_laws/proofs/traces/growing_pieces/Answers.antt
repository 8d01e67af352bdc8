use Rattle.vg_meaning_laws.proofs.Grows.{grows_next, grows_read, grows_write, grows_idles, grows_opened, grows_returned}
use Rattle.vg_meaning_laws.proofs.traces.growing_pieces.Goals as goal

pub returns-clause-sequence : goal.returns-clause-sequence
returns-clause-sequence g c = λ p q h k. grows_next p q h k

pub returns-clause-read : goal.returns-clause-read
returns-clause-read g c = λ address p k. grows_read address p k

pub returns-clause-write : goal.returns-clause-write
returns-clause-write g c = λ address value. grows_write address value

pub returns-clause-idle : goal.returns-clause-idle
returns-clause-idle g c = λ n p k. grows_idles n p k

pub returns-clause-opened : goal.returns-clause-opened
returns-clause-opened g c = λ r call p k. grows_opened r call p k

pub returns-clause-returned : goal.returns-clause-returned
returns-clause-returned g c = λ p q h k s w. grows_returned w.outside.trace (p s w) q (h s w) k
