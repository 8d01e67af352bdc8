use Rattle.vg_core.specs.HeldProgram.{program_at}
use Rattle.vg_reach_marks.specs.Growing.{Sound}
use Rattle.vg_reach.proofs.Closed.{EntriesSoFar}
use Rattle.vg_reach.proofs.closing.mark_entries.Given as goal

abbrev pub invariant-loop-handler : goal.invariant-loop-handler
invariant-loop-handler l =
    Sound (program_at l.program) l.heap l.fn.marks → EntriesSoFar (program_at l.program) l.heap l.program.handlers l.fn.marks l.marks l.handler-index
