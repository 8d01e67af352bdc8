use Rattle.vg_meaning_laws.proofs.Same.{same_read, same_write}
use Rattle.vg_meaning_laws.proofs.equivalence.devices.Goals as goal

pub returns-clause-read : goal.returns-clause-read
returns-clause-read g c = λ address f h k. same_read address f h k

pub returns-clause-write : goal.returns-clause-write
returns-clause-write g c = λ address value. same_write address value
