use Rattle.std.proofs.Common.{arith}
use Rattle.vg_reach_index.proofs.Rows.{sorted_more, sorted_all}
use Rattle.vg_reach_index.proofs.index.cell_rows.Goals as goal

pub loop-cell-preserved : goal.loop-cell-preserved
loop-cell-preserved c =
    sorted_more c.args.heap.now c.args.count c.loop-cell.cell c.loop-cell.rows.items c.sort_cell.new.rows.items c.loop-cell.invariant c.in_ok-sort_cell.ensures

pub returns : goal.returns
returns c =
    sorted_all c.args.heap.now c.args.count c.loop-cell.cell c.loop-cell.rows.items c.from_vec.result c.from_vec.ensures
    (omega (arith, c.loop-cell-test.false, c.in-Ok.ensures, c.count.ensures)) c.loop-cell.invariant
