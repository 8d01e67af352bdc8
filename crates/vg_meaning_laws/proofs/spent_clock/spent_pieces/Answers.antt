use Rattle.vg_meaning_laws.proofs.Spent.{spent_then, spent_read, spent_write, spent_idles}
use Rattle.vg_meaning_laws.proofs.spent_clock.spent_pieces.Goals as goal

pub returns-clause-sequence : goal.returns-clause-sequence
returns-clause-sequence g c = λ n m a p le h k. spent_then n m a p le h k

pub returns-clause-read : goal.returns-clause-read
returns-clause-read g c = λ n address p k. spent_read n address p k

pub returns-clause-write : goal.returns-clause-write
returns-clause-write g c = λ n address value. spent_write n address value

pub returns-clause-idle : goal.returns-clause-idle
returns-clause-idle g c = λ n m p k. spent_idles n m p k
