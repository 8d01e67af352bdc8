use Rattle.std.proofs.Common.{◌∙◌, sym, ap, arith, slice_get}
use Rattle.std.proofs.lemmas.Option.{slice_get-get_or, slice_get_within}
use Rattle.vg_core.specs.declared.member.Member.TheVariants.{Method}
use Rattle.vg_core.specs.HeldProgram.{program_at}
use Rattle.vg_reach_marks.proofs.Marking.{in_still}
use Rattle.vg_reach_visits.proofs.Sites.{looked_more}
use Rattle.vg_reach_visits.proofs.looking.look_at_all.Goals as goal

pub loop-step-preserved : goal.loop-step-preserved
loop-step-preserved c =
    let p = program_at c.args.program.now in
    let h = c.args.heap.now in
    let n = c.loop-step.step-index in
    let u = c.args.work.now in
    let v = c.loop-step.work in
    λ r im. let inv = c.loop-step.invariant r im in
    let at = slice_get-get_or c.args.steps.now n _ c.loop-step-test.true in
    looked_more p h c.args.steps.now n _ u v c.look_at.new.work at
    (c.in_ok-look_at.ensures n (inv.0.0.0, inv.0.1) (in_still p h u.marks v.marks (Method c.args.method) inv.0.0 im)
    (ap (λ z. slice_get z n) (sym c.requires.steps) ∙ at)) inv

pub returns : goal.returns
returns c =
    λ r im. let inv = c.loop-step.invariant r im in (
      inv.0,
      λ i s e. let f = ap (λ z. slice_get z i) c.requires.steps ∙ e in
          inv.1 i s (let l = slice_get_within c.args.steps.now i s f in omega (arith, l, c.loop-step-test.false)) f,
    )
