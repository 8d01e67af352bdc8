use Rattle.std.proofs.Common.{◌+◌, ◌-◌, ◌++◌, replicate, ◌≡◌, subst, sym}
use Rattle.vg_flatten.proofs.Finished.{wide_on}
use Rattle.vg_flatten.proofs.procedure.with_temps.Goals as goal

pub loop-temp-preserved : goal.loop-temp-preserved
loop-temp-preserved c =
    subst (λ z. z ++ replicate (c.args.temps - (c.loop-temp._temp + 1)) 4 ≡ c.args.widths ++ replicate c.args.temps 4) (sym c.in_ok-push.ensures.ok)
    (wide_on c.loop-temp.row (c.args.widths ++ replicate c.args.temps 4) c.args.temps c.loop-temp._temp 4 c.loop-temp-test.true c.loop-temp.invariant)
