use Rattle.vg_trim.specs.Looked.{IsPlaceFree}
use Rattle.vg_trim.proofs.Counted.{one_more}
use Rattle.vg_trim.proofs.looking.all_free.Goals as goal

pub loop-at-preserved : goal.loop-at-preserved
loop-at-preserved c =
    one_more (IsPlaceFree c.args.new.now c.args.result_width c.args.newer.now)
    c.loop-at.at c.loop-at.invariant (c.place_free.ensures c.if-not-place_free.false)
