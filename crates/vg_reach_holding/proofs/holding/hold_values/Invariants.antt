use Rattle.vg_core.specs.declared.member.Member.TheVariants.{Cell}
use Rattle.vg_core.specs.HeldProgram.{program_at}
use Rattle.vg_live.specs.Sets.{IsIn}
use Rattle.vg_reach_marks.specs.Growing.{Sound}
use Rattle.vg_reach_holding.proofs.Places.{HeldSoFar}
use Rattle.vg_reach_holding.proofs.holding.hold_values.Given as goal

abbrev pub invariant-loop-value : goal.invariant-loop-value
invariant-loop-value l =
    Sound (program_at l.program) l.heap l.fn.marks → IsIn l.fn.marks.set (Cell l.cell)
    → HeldSoFar (program_at l.program) l.heap l.values l.fn.marks l.marks l.value-index
