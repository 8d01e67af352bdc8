use Rattle.std.proofs.Common.{map}
use Rattle.vg_core.specs.Heap.{kind_of}
use Rattle.vg_number.specs.Numbering.{has_reason}
use Rattle.vg_plan_columns.specs.Arrays.{AreRows}
use Rattle.vg_plan_columns.proofs.arrays.rows_of.Given as goal

abbrev pub invariant-loop-index : goal.invariant-loop-index
invariant-loop-index l = AreRows (map kind_of l.cells) (has_reason l.live) l.items l.index l.rows.items
