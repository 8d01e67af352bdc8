use Rattle.vg_heap.proofs.Places.{value_there, value_apart, same_kinds}
use Rattle.vg_heap.proofs.stores.stores_change_one_place.Goals as goal

pub returns-clause-there : goal.returns-clause-there
returns-clause-there c = λ p h x old v e. value_there p h x old v e

pub returns-clause-others : goal.returns-clause-others
returns-clause-others c = λ p formed h x y v n. value_apart p formed h v x y n

pub returns-clause-kinds : goal.returns-clause-kinds
returns-clause-kinds c = λ p h x v. same_kinds p h x v
