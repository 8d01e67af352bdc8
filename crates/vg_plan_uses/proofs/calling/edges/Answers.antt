use Rattle.vg_core.specs.HeldProgram.{program_at}
use Rattle.vg_plan_uses.specs.Calling.{edges_from}
use Rattle.vg_plan_uses.proofs.Noting.{more_edges}
use Rattle.vg_plan_uses.proofs.calling.edges.Goals as goal

pub loop-index-preserved : goal.loop-index-preserved
loop-index-preserved c =
    more_edges (program_at c.args.program.now) c.args.plan.now c.args.dispatches.now c.args.room c.args.live.now c.args.program.now.tables.methods
    c.loop-index.index c.len-count.result c.is_kept.result c.loop-index.rows c.push.new.self
    (edges_from (program_at c.args.program.now) c.args.plan.now c.args.dispatches.now c.args.room c.args.live.now 0 c.args.program.now.tables.methods)
    c.in_ok-row.row c.loop-index-test.true c.len-count.ensures c.is_kept.ensures c.loop-index.invariant c.in_ok-row.ensures c.in_ok-push.ensures.ok
