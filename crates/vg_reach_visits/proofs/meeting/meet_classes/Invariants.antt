use Rattle.std.proofs.Common.{◌≡◌, ℕ, Some}
use Rattle.vg_core.specs.declared.member.Member.TheVariants.{Method}
use Rattle.vg_core.specs.HeldProgram.{program_at}
use Rattle.vg_live.specs.Sets.{IsIn}
use Rattle.vg_reach_marks.specs.Growing.{Sound}
use Rattle.vg_reach_marks.proofs.Marking.{SoFar}
use Rattle.vg_reach_visits.specs.Visited.{first_at, FoundDone, IsSeen, IsSite}
use Rattle.vg_reach_visits.proofs.meeting.meet_classes.Given as goal

abbrev pub invariant-loop-class : goal.invariant-loop-class
invariant-loop-class l =
    let p = program_at l.program in
    Sound p l.heap l.fn.marks → IsSeen p l.heap l.fn.marks l.seen → IsSite p l.site → IsIn l.fn.marks.set (Method l.site.method)
    → SoFar p l.heap (λ s d. Unit {0}) (λ a d. (k : ℕ) → first_at l.seen d ≡ Some k → FoundDone p l.heap a l.site.class l.site.selector d) l.fn.marks l.marks l.class
