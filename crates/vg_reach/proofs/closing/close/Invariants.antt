use Rattle.std.proofs.Common.{ℕ, ◌+◌, ◌-◌, length}
use Rattle.vg_core.specs.HeldProgram.{program_at}
use Rattle.vg_reach_marks.specs.Marked.{unmarked}
use Rattle.vg_reach_visits.specs.Visited.{Works}
use Rattle.vg_reach.specs.Looking.{Looked}
use Rattle.vg_reach.proofs.closing.close.Given as goal

abbrev pub decreases-loop-next : goal.decreases-loop-next
decreases-loop-next l = unmarked l.work.marks.set + length l.work.marks.order - l.next

abbrev pub invariant-loop-next : goal.invariant-loop-next
invariant-loop-next l = Works (program_at l.program) l.heap l.fn.work l.work × Looked (program_at l.program) l.heap l.work l.next
