use Rattle.std.proofs.Common.{◌≡◌, length}
use Rattle.vg_reach_index.specs.Indexed.{IsBelowRow}
use Rattle.vg_reach_index.proofs.class_row.below_row.Given as goal

abbrev pub invariant-loop-above : goal.invariant-loop-above
invariant-loop-above l = (length l.row ≡ l.above) × IsBelowRow l.tables l.class l.row
