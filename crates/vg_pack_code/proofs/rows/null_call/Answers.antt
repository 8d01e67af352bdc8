use Rattle.vg_pack_code.proofs.RowsOfCode.{forget_step}
use Rattle.vg_pack_code.proofs.rows.null_call.Goals as goal

pub loop-index-preserved : goal.loop-index-preserved
loop-index-preserved c =
    forget_step c.loop-index.rows.items c.push.new.self.items c.loop-index.index c.in_ok-push.ensures.items c.loop-index.invariant
