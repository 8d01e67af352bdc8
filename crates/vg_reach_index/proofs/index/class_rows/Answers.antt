use Rattle.vg_reach_index.proofs.Rows.{rows_grow}
use Rattle.vg_reach_index.proofs.index.class_rows.Goals as goal

pub loop-class-preserved : goal.loop-class-preserved
loop-class-preserved c =
    rows_grow c.args.tables.now c.loop-class.rows c.push.new.self _ c.loop-class.class c.in_ok-push.ensures.ok c.in_ok-new.ensures c.loop-class.invariant
