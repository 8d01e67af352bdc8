use Rattle.std.proofs.Common.{◌≡◌, ℕ, Some, slice_get}
use Rattle.vg_core.specs.declared.member.Member.TheVariants.{Field, Cell}
use Rattle.vg_core.specs.Heap.{OfObject, class_in}
use Rattle.vg_core.specs.HeldProgram.{program_at}
use Rattle.vg_live.specs.Sets.{IsIn}
use Rattle.vg_reach_marks.specs.Growing.{Sound}
use Rattle.vg_reach_marks.proofs.Marking.{SoFar}
use Rattle.vg_reach_holding.specs.Done.{PlaceDone}
use Rattle.vg_reach_holding.proofs.holding.hold_objects.Given as goal

abbrev pub invariant-loop-class : goal.invariant-loop-class
invariant-loop-class l =
    Sound (program_at l.program) l.heap l.fn.marks → IsIn l.fn.marks.set (Field l.field)
    → SoFar (program_at l.program) l.heap (λ s d. Unit {0})
    (λ a d. (k : ℕ) → class_in (slice_get l.heap.cells k) ≡ Some d → IsIn l.fn.marks.set (Cell k) → PlaceDone (program_at l.program) l.heap a (OfObject k l.field))
    l.fn.marks l.marks l.class
