use Rattle.std.proofs.Common.{◌≡◌, ℕ, Some, slice_get, arith}
use Rattle.vg_core.specs.declared.member.Member.TheVariants.{Field, Cell}
use Rattle.vg_core.specs.Heap.{OfObject, class_in}
use Rattle.vg_core.specs.HeldProgram.{program_at}
use Rattle.vg_live.specs.Sets.{IsIn}
use Rattle.vg_reach_marks.proofs.Marking.{in_still, so_far}
use Rattle.vg_reach_holding.specs.Done.{PlaceDone}
use Rattle.vg_reach_holding.proofs.Places.{place_still, by_class}
use Rattle.vg_reach_holding.proofs.holding.hold_objects.Goals as goal

pub loop-class-preserved : goal.loop-class-preserved
loop-class-preserved c =
    let p = program_at c.args.program.now in
    let h = c.args.heap.now in
    let s = c.args.marks.now in
    let a = c.loop-class.marks in
    λ q f. let inv = c.loop-class.invariant q f in
    let z = c.in_ok-hold_class.ensures inv.0.0 (in_still p h s a (Field c.args.field) inv.0 f) in
    so_far p h (λ b d. Unit {0}) (λ b d. (k : ℕ) → class_in (slice_get h.cells k) ≡ Some d → IsIn s.set (Cell k) → PlaceDone p h b (OfObject k c.args.field))
    (λ b t d g e. tt) (λ b t d g w. λ k e i. place_still p h b t (OfObject k c.args.field) g (w k e i)) s a c.hold_class.new.marks c.loop-class.class inv
    (z.0, λ u k e i. z.1 k e (in_still p h s a (Cell k) inv.0 i))

pub returns : goal.returns
returns c =
    let p = program_at c.args.program.now in
    λ q f. let inv = c.loop-class.invariant q f in (
      inv.0,
      by_class p c.args.heap.now c.loop-class.marks c.args.field (λ k. IsIn c.args.marks.now.set (Cell k))
          (λ d k lt e g. inv.1 d (omega (arith, lt, c.loop-class-test.false, c.requires.classes)) tt k e g),
    )
