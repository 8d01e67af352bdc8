use Rattle.vg_calls_packed.proofs.Typed.{cycle_typed, has_none, is_path}
use Rattle.vg_calls_packed.proofs.laws.packed_calls_are_typed_calls.Goals as goal

pub returns-clause-path : goal.returns-clause-path
returns-clause-path c = λ p h s n cs f given ready from costs bytes enough spent. is_path p h s n cs f given ready from costs bytes enough spent

pub returns-clause-none : goal.returns-clause-none
returns-clause-none c = λ p h s n cs f given ready from none. has_none p h s n cs f given ready from none

pub returns-clause-cycle : goal.returns-clause-cycle
returns-clause-cycle c = λ p h s n cs f given ready from procedures is. cycle_typed p h s n cs f given ready from procedures is
