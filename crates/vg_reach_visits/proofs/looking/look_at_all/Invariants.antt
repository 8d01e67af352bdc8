use Rattle.vg_core.specs.declared.member.Member.TheVariants.{Method}
use Rattle.vg_core.specs.HeldProgram.{program_at}
use Rattle.vg_live.specs.Sets.{IsIn}
use Rattle.vg_reach_visits.specs.Visited.{Ready}
use Rattle.vg_reach_visits.proofs.Sites.{LookedSoFar}
use Rattle.vg_reach_visits.proofs.looking.look_at_all.Given as goal

abbrev pub invariant-loop-step : goal.invariant-loop-step
invariant-loop-step l =
    let p = program_at l.program in
    Ready p l.heap l.fn.work → IsIn l.fn.work.marks.set (Method l.method) → LookedSoFar p l.heap l.steps l.fn.work l.work l.step-index
