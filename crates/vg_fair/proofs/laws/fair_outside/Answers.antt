use Rattle.vg_fair.proofs.Fair.{alike_read, alike_write, alike_idles}
use Rattle.vg_fair.proofs.laws.fair_outside.Goals as goal

pub returns-clause-read : goal.returns-clause-read
returns-clause-read g c = λ address f h k. alike_read address f h k

pub returns-clause-write : goal.returns-clause-write
returns-clause-write g c = λ address value. alike_write address value

pub returns-clause-idle : goal.returns-clause-idle
returns-clause-idle g c = λ n f h k. alike_idles n f h k
