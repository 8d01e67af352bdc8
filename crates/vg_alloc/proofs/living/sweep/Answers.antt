use Rattle.std.proofs.Common.{◌∙◌, ◌-◌, ap, arith, slice_get}
use Rattle.vg_templates.specs.Living.{needs_there, swept}
use Rattle.vg_alloc.proofs.Sweeping.{sweeps}
use Rattle.vg_alloc.proofs.living.sweep.Goals as goal

pub loop-place-preserved : goal.loop-place-preserved
loop-place-preserved c =
    let below = c.loop-place-test.true in
    let place = c.loop-place.place - 1 in
    ap (swept c.args.code.now c.args.local place) c.put.ensures
    ∙ sweeps c.args.code.now c.args.local c.loop-place.place c.loop-place.marks.items c.needs_there-is.result (omega (arith, below))
    (c.needs_there-is.ensures ∙ ap (λ ms. needs_there ms c.args.local place (slice_get c.args.code.now place)) c.as_slice.ensures.value)
    ∙ c.loop-place.invariant
