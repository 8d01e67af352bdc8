use Rattle.std.proofs.Common.{◌≡◌, Some, slice_get}
use Rattle.vg_core.specs.declared.member.Member.TheVariants.{Cell}
use Rattle.vg_core.specs.HeldProgram.{program_at}
use Rattle.vg_core.specs.Heap.{class_in}
use Rattle.vg_live.specs.Sets.{IsIn}
use Rattle.vg_reach_marks.specs.Growing.{Sound}
use Rattle.vg_reach_visits.specs.Visited.{IsSeen}
use Rattle.vg_reach_visits.proofs.Sites.{MetSoFar}
use Rattle.vg_reach_visits.proofs.meeting.meet_sites.Given as goal

abbrev pub invariant-loop-site : goal.invariant-loop-site
invariant-loop-site l =
    let p = program_at l.program in
    Sound p l.heap l.fn.marks → IsSeen p l.heap l.fn.marks l.seen → class_in (slice_get l.heap.cells l.cell) ≡ Some l.class → IsIn l.fn.marks.set (Cell l.cell)
    → MetSoFar p l.heap l.seen.sites.items l.class l.fn.marks l.marks l.site-index
