use Rattle.std.proofs.Common.{◌≡◌, ℕ, Some, arith}
use Rattle.vg_core.specs.declared.member.Member.TheVariants.{Method}
use Rattle.vg_core.specs.HeldProgram.{program_at}
use Rattle.vg_reach_marks.proofs.Marking.{in_still, so_far}
use Rattle.vg_reach_visits.specs.Visited.{first_at, FoundDone}
use Rattle.vg_reach_visits.proofs.Sites.{found_still, first_within, seen_still}
use Rattle.vg_reach_visits.proofs.meeting.meet_classes.Goals as goal

pub loop-class-preserved : goal.loop-class-preserved
loop-class-preserved c =
    let p = program_at c.args.program.now in
    let h = c.args.heap.now in
    let s0 = c.args.marks.now in
    let a = c.loop-class.marks in
    let x = c.args.site in
    λ q s is im. let inv = c.loop-class.invariant q s is im in
    let z = c.in_ok-meet_class.ensures inv.0.0 (seen_still p h s0 a c.args.seen.now inv.0 s) is (in_still p h s0 a (Method x.method) inv.0 im) in
    so_far p h (λ b d. Unit {0}) (λ b d. (k : ℕ) → first_at c.args.seen.now d ≡ Some k → FoundDone p h b x.class x.selector d)
    (λ b t d g e. tt) (λ b t d g w. λ k e. found_still p h b t x.class x.selector d g (w k e)) s0 a c.meet_class.new.marks c.loop-class.class inv (z.0, λ u. z.1)

pub returns : goal.returns
returns c =
    λ q s is im. let inv = c.loop-class.invariant q s is im in (
      inv.0,
      λ d k e. inv.1 d
          (let l = first_within (program_at c.args.program.now) c.args.heap.now c.args.marks.now c.args.seen.now d k s e in omega (arith, l, c.loop-class-test.false)) tt k e,
    )
