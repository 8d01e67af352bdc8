use Rattle.std.proofs.Common.{[], replicate}
use Rattle.vg_plan_columns.proofs.Rowed.{more_none}
use Rattle.vg_plan_columns.proofs.arrays.no_rows.Goals as goal

pub loop-row-preserved : goal.loop-row-preserved
loop-row-preserved c =
    more_none c.loop-row.rows.items c.push.new.self.items (replicate c.args.count []) c.args.count c.loop-row._row c.new.result c.loop-row-test.true
    c.loop-row.invariant c.new.ensures c.in_ok-push.ensures.items
