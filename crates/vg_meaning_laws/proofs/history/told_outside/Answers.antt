use Rattle.vg_meaning_laws.proofs.Told.{told_read, told_write, told_interrupt, told_idles}
use Rattle.vg_meaning_laws.proofs.history.told_outside.Goals as goal

pub returns-clause-read : goal.returns-clause-read
returns-clause-read g c = λ f address p p' k. told_read f address p p' k

pub returns-clause-write : goal.returns-clause-write
returns-clause-write g c = λ f address value. told_write f address value

pub returns-clause-interrupt : goal.returns-clause-interrupt
returns-clause-interrupt g c = λ f p p' k. told_interrupt f p p' k

pub returns-clause-idle : goal.returns-clause-idle
returns-clause-idle g c = λ f n p p' k. told_idles f n p p' k
