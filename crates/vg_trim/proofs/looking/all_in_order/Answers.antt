use Rattle.vg_trim.specs.Looked.{IsPlaceInOrder}
use Rattle.vg_trim.proofs.Counted.{one_more}
use Rattle.vg_trim.proofs.looking.all_in_order.Goals as goal

pub loop-at-preserved : goal.loop-at-preserved
loop-at-preserved c =
    one_more (IsPlaceInOrder c.args.new.now c.args.result_width c.args.older.now c.args.newer.now)
    c.loop-at.at c.loop-at.invariant (c.place_in_order.ensures c.if-not-place_in_order.false)
