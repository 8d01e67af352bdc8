use Rattle.std.proofs.Common.{◌++◌, ◌+◌, ◌-◌, ◌≡◌, subst, sym}
use Rattle.vg_flatten.specs.Flattened.{zero_list}
use Rattle.vg_flatten.proofs.Finished.{zero_on}
use Rattle.vg_flatten.proofs.procedure.zeroes.Goals as goal

pub loop-local-preserved : goal.loop-local-preserved
loop-local-preserved c =
    subst (λ z. z ++ zero_list (c.args.from + c.args.count - (c.loop-local.local + 1)) (c.loop-local.local + 1) ≡ zero_list c.args.count c.args.from)
    (sym c.in_ok-push.ensures.ok)
    (zero_on c.loop-local.code (zero_list c.args.count c.args.from) c.args.from c.args.count c.loop-local.local c.loop-local-test.true c.loop-local.invariant)
