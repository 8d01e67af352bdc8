use Rattle.vg_meaning_laws.proofs.Longer.{longer_then, longer_read, longer_write, longer_idles}
use Rattle.vg_meaning_laws.proofs.more_clock.longer_pieces.Goals as goal

pub returns-clause-sequence : goal.returns-clause-sequence
returns-clause-sequence g c = λ d a b p q h k e. longer_then d a b p q h k e

pub returns-clause-read : goal.returns-clause-read
returns-clause-read g c = λ d address p q k. longer_read d address p q k

pub returns-clause-write : goal.returns-clause-write
returns-clause-write g c = λ d address value. longer_write d address value

pub returns-clause-idle : goal.returns-clause-idle
returns-clause-idle g c = λ d n p q k e. longer_idles d n p q k e
