use Rattle.std.proofs.Common.{◌≡◌, length}
use Rattle.vg_reach_index.proofs.index.no_cells.Given as goal

abbrev pub invariant-loop-class : goal.invariant-loop-class
invariant-loop-class l = length l.rows.items ≡ l._class
