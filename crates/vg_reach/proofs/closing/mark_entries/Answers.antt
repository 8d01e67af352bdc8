use Rattle.std.proofs.Common.{◌≡◌, ◌∙◌, sym, ap, arith, length, slice_get}
use Rattle.std.proofs.lemmas.Option.{slice_get-get_or, slice_get_within}
use Rattle.vg_core.specs.HeldProgram.{program_at}
use Rattle.vg_reach.proofs.Closed.{entry_more}
use Rattle.vg_reach.proofs.closing.mark_entries.Goals as goal

pub loop-handler-preserved : goal.loop-handler-preserved
loop-handler-preserved c =
    let n = c.loop-handler.handler-index in
    let at = ap (λ z. slice_get z n) (sym c.as_slice-handler-items.ensures) ∙ slice_get-get_or c.as_slice-handler-items.result.now n _ c.loop-handler-test.true in
    λ q. entry_more (program_at c.args.program.now) c.args.heap.now n _ c.args.marks.now c.loop-handler.marks c.mark.new.self at c.in_ok-mark.ensures (c.loop-handler.invariant q)

pub returns : goal.returns
returns c =
    λ q. let inv = c.loop-handler.invariant q in (
      inv.0,
      λ i e f. inv.1 i e (let l = slice_get_within c.args.program.now.handlers i e f in let v = ap length c.as_slice-handler-items.ensures in
          omega (arith, l, v, c.loop-handler-test.false)) f,
    )
