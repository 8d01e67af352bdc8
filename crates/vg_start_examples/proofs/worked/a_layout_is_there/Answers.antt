use Rattle.vg_start_examples.specs.Worked.{started_so}
use Rattle.vg_start_examples.proofs.Typed.{typed, plain, typed_heap, ranged}
use Rattle.vg_start_examples.proofs.Live.{of_live, placed}
use Rattle.vg_start_examples.proofs.worked.a_layout_is_there.Goals as goal

pub returns-clause-started : goal.returns-clause-started
returns-clause-started c = started_so

pub returns-clause-typed : goal.returns-clause-typed
returns-clause-typed c = typed

pub returns-clause-plain : goal.returns-clause-plain
returns-clause-plain c = plain

pub returns-clause-heap : goal.returns-clause-heap
returns-clause-heap c = typed_heap

pub returns-clause-ranged : goal.returns-clause-ranged
returns-clause-ranged c = ranged

pub returns-clause-of_live : goal.returns-clause-of_live
returns-clause-of_live c = of_live

pub returns-clause-placed : goal.returns-clause-placed
returns-clause-placed c = placed
