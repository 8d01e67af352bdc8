use Rattle.vg_core.specs.declared.member.Member.TheVariants.{Field, Cell}
use Rattle.vg_core.specs.Heap.{OfObject}
use Rattle.vg_core.specs.HeldProgram.{program_at}
use Rattle.vg_live.specs.Sets.{IsIn}
use Rattle.vg_reach_marks.specs.Growing.{Sound}
use Rattle.vg_reach_holding.specs.Done.{PlaceDone}
use Rattle.vg_reach_holding.proofs.Places.{SoFarIn}
use Rattle.vg_reach_holding.proofs.holding.hold_in.Given as goal

abbrev pub invariant-loop-cell : goal.invariant-loop-cell
invariant-loop-cell l =
    Sound (program_at l.program) l.heap l.fn.marks → IsIn l.fn.marks.set (Field l.field)
    → SoFarIn (program_at l.program) l.heap l.cells (λ s k. IsIn s.set (Cell k)) (λ a k. PlaceDone (program_at l.program) l.heap a (OfObject k l.field)) l.fn.marks l.marks l.cell-index
