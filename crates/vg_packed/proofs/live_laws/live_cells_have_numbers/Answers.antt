use Rattle.vg_packed.proofs.Cells.{have, alone}
use Rattle.vg_packed.proofs.live_laws.live_cells_have_numbers.Goals as goal

pub returns-clause-have : goal.returns-clause-have
returns-clause-have c = λ p h s n set is j l. have p h s set n is j l

pub returns-clause-alone : goal.returns-clause-alone
returns-clause-alone c = λ p h s n set is j g. alone p h s set n is j g
