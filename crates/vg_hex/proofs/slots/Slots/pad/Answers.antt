use Rattle.std.proofs.Common.{arith}
use Rattle.vg_hex.proofs.Placing.{pad_more}
use Rattle.vg_hex.proofs.slots.Slots.pad.Goals as goal

pub loop-self-preserved : goal.loop-self-preserved
loop-self-preserved c =
    (pad_more _ _ _ _ (omega arith) c.in_ok-push.ensures.items c.loop-self.invariant.0, omega arith)
