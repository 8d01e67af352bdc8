use Rattle.vg_trim_pairs.specs.Views.{both_in}
use Rattle.vg_trim.specs.Looked.{IsStoodFor}
use Rattle.vg_trim.proofs.Counted.{one_more}
use Rattle.vg_trim.proofs.looking.all_stand.Goals as goal

pub loop-at-preserved : goal.loop-at-preserved
loop-at-preserved c =
    one_more (IsStoodFor (both_in c.args.both)) c.loop-at.at c.loop-at.invariant (c.stands_at.ensures c.if-not-stands_at.false)
