use Rattle.std.proofs.Common.{arith}
use Rattle.std.proofs.lemmas.Option.{slice_get_within}
use Rattle.vg_core.specs.declared.member.Member.TheVariants.{Field, Cell}
use Rattle.vg_core.specs.Heap.{OfObject}
use Rattle.vg_core.specs.HeldProgram.{program_at}
use Rattle.vg_live.specs.Sets.{IsIn}
use Rattle.vg_reach_marks.proofs.Marking.{in_still}
use Rattle.vg_reach_holding.specs.Done.{PlaceDone}
use Rattle.vg_reach_holding.proofs.Places.{place_still, so_far_in}
use Rattle.vg_reach_holding.proofs.holding.hold_these.Goals as goal

pub loop-field-preserved : goal.loop-field-preserved
loop-field-preserved c =
    let p = program_at c.args.program.now in
    let h = c.args.heap.now in
    λ q f. let inv = c.loop-field.invariant q f in
    so_far_in p h c.args.fields.now (λ s k. IsIn s.set (Field k)) (λ a k. PlaceDone p h a (OfObject c.args.cell k))
    (λ s t k g e. in_still p h s t (Field k) g e) (λ s t k g d. place_still p h s t (OfObject c.args.cell k) g d) c.args.marks.now c.loop-field.marks c.hold_if_field.new.marks
    c.loop-field.field-index inv (c.in_ok-hold_if_field.ensures inv.0.0 (in_still p h c.args.marks.now c.loop-field.marks (Cell c.args.cell) inv.0 f))

pub returns : goal.returns
returns c =
    λ q f. let inv = c.loop-field.invariant q f in
    (inv.0, λ i k e g. inv.1 i k (let l = slice_get_within c.args.fields.now i k e in omega (arith, l, c.loop-field-test.false)) e g)
