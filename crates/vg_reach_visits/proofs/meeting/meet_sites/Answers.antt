use Rattle.std.proofs.Common.{◌≡◌, ◌∙◌, sym, ap, arith, length, Some, slice_get}
use Rattle.std.proofs.lemmas.Option.{slice_get-get_or, slice_get_within}
use Rattle.vg_core.specs.declared.member.Member.TheVariants.{Cell}
use Rattle.vg_core.specs.HeldProgram.{program_at}
use Rattle.vg_reach_marks.proofs.Marking.{in_still}
use Rattle.vg_reach_visits.proofs.Sites.{met_next}
use Rattle.vg_reach_visits.proofs.meeting.meet_sites.Goals as goal

pub loop-site-preserved : goal.loop-site-preserved
loop-site-preserved c =
    let p = program_at c.args.program.now in
    let h = c.args.heap.now in
    let s0 = c.args.marks.now in
    let a = c.loop-site.marks in
    let n = c.loop-site.site-index in
    λ q s cl i. let inv = c.loop-site.invariant q s cl i in
    let at = ap (λ z. slice_get z n) (sym c.as_slice-site-items.ensures.value) ∙ slice_get-get_or c.as_slice-site-items.result.now n _ c.loop-site-test.true in
    met_next p h c.args.seen.now c.args.class c.args.cell n _ s0 a c.meet.new.marks at s
    (λ sound is im. c.in_ok-meet.ensures sound is im cl (in_still p h s0 a (Cell c.args.cell) inv.0 i)) inv

pub returns : goal.returns
returns c =
    λ q s cl i. let inv = c.loop-site.invariant q s cl i in (
      inv.0,
      λ j x e. inv.1 j x (let l = slice_get_within c.args.seen.now.sites.items j x e in let v = ap length c.as_slice-site-items.ensures.value in
          omega (arith, l, v, c.loop-site-test.false)) e,
    )
