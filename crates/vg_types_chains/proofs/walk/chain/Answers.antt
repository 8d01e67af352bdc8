use Rattle.std.proofs.Common.{arith}
use Rattle.vg_types_chains.proofs.Walking.{walked}
use Rattle.vg_types_chains.proofs.walk.chain.Goals as goal

pub up-preserved : goal.up-preserved
up-preserved c =
    walked c.args.above.now c.up.row c.push.new.self _ _ c.in-Some.class c.up.next c.above_at-next.result _
    (omega arith) c.in-Some.is c.in_ok-push-in-Some.ensures.ok c.above_at-next.ensures c.up.invariant
