use Rattle.std.proofs.Common.{◌≡◌, ◌++◌, drop}
use Rattle.vg_linear.specs.Laying.{lone_arrays}
use Rattle.vg_linear.proofs.laying.lone_arrays.Given as goal

abbrev pub invariant-loop-table : goal.invariant-loop-table
invariant-loop-table l = l.row ++ lone_arrays (drop l.table-index l.tables) ≡ lone_arrays l.tables
