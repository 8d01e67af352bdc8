use Rattle.vg_packed.proofs.Live.{is_of}
use Rattle.vg_packed.proofs.Placed.{is_placed}
use Rattle.vg_packed.proofs.run_laws.packed_programs_are_laid.Goals as goal

pub returns-clause-live : goal.returns-clause-live
returns-clause-live c = λ p h s n cs f given ready from k. is_of p h s n cs f given ready from k

pub returns-clause-placed : goal.returns-clause-placed
returns-clause-placed c = λ p h s n cs f given ready from k are. is_placed p h s n cs f given ready from k are
