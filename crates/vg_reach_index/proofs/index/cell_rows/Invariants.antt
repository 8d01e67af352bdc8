use Rattle.vg_reach_index.proofs.Rows.{SortedBelow}
use Rattle.vg_reach_index.proofs.index.cell_rows.Given as goal

abbrev pub invariant-loop-cell : goal.invariant-loop-cell
invariant-loop-cell l = SortedBelow l.heap l.count l.cell l.rows.items
