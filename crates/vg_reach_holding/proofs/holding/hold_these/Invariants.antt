use Rattle.vg_core.specs.declared.member.Member.TheVariants.{Field, Cell}
use Rattle.vg_core.specs.Heap.{OfObject}
use Rattle.vg_core.specs.HeldProgram.{program_at}
use Rattle.vg_live.specs.Sets.{IsIn}
use Rattle.vg_reach_marks.specs.Growing.{Sound}
use Rattle.vg_reach_holding.specs.Done.{PlaceDone}
use Rattle.vg_reach_holding.proofs.Places.{SoFarIn}
use Rattle.vg_reach_holding.proofs.holding.hold_these.Given as goal

abbrev pub invariant-loop-field : goal.invariant-loop-field
invariant-loop-field l =
    Sound (program_at l.program) l.heap l.fn.marks → IsIn l.fn.marks.set (Cell l.cell)
    → SoFarIn (program_at l.program) l.heap l.fields (λ s f. IsIn s.set (Field f)) (λ a f. PlaceDone (program_at l.program) l.heap a (OfObject l.cell f)) l.fn.marks l.marks l.field-index
