use Rattle.std.proofs.Common.{drop}
use Rattle.vg_reach_index.proofs.Rows.{Selects}
use Rattle.vg_reach_index.proofs.class_row.selected.Given as goal

abbrev pub invariant-loop-method : goal.invariant-loop-method
invariant-loop-method l = Selects l.tables l.methods (drop l.method-index l.methods) l.row.items
