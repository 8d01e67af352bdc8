use Rattle.std.proofs.Common.{arith}
use Rattle.std.proofs.lemmas.Option.{slice_get_within}
use Rattle.vg_core.specs.declared.member.Member.TheVariants.{Field, Cell}
use Rattle.vg_core.specs.Heap.{OfObject}
use Rattle.vg_core.specs.HeldProgram.{program_at}
use Rattle.vg_live.specs.Sets.{IsIn}
use Rattle.vg_reach_marks.proofs.Marking.{in_still}
use Rattle.vg_reach_holding.specs.Done.{PlaceDone}
use Rattle.vg_reach_holding.proofs.Places.{place_still, so_far_in}
use Rattle.vg_reach_holding.proofs.holding.hold_in.Goals as goal

pub loop-cell-preserved : goal.loop-cell-preserved
loop-cell-preserved c =
    let p = program_at c.args.program.now in
    let h = c.args.heap.now in
    λ q f. let inv = c.loop-cell.invariant q f in
    so_far_in p h c.args.cells.now (λ s k. IsIn s.set (Cell k)) (λ a k. PlaceDone p h a (OfObject k c.args.field))
    (λ s t k g e. in_still p h s t (Cell k) g e) (λ s t k g d. place_still p h s t (OfObject k c.args.field) g d) c.args.marks.now c.loop-cell.marks c.hold_if_cell.new.marks
    c.loop-cell.cell-index inv (c.in_ok-hold_if_cell.ensures inv.0.0 (in_still p h c.args.marks.now c.loop-cell.marks (Field c.args.field) inv.0 f))

pub returns : goal.returns
returns c =
    λ q f. let inv = c.loop-cell.invariant q f in
    (inv.0, λ i k e g. inv.1 i k (let l = slice_get_within c.args.cells.now i k e in omega (arith, l, c.loop-cell-test.false)) e g)
