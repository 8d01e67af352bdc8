use Rattle.std.proofs.Common.{◌≡◌, length}
use Rattle.vg_reach_index.specs.Indexed.{AreRows}
use Rattle.vg_reach_index.proofs.index.class_rows.Given as goal

abbrev pub invariant-loop-class : goal.invariant-loop-class
invariant-loop-class l = (length l.rows ≡ l.class) × AreRows l.tables l.rows
