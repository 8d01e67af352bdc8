use Rattle.std.proofs.Common.{length, map}
use Rattle.vg_core.specs.Heap.{kind_of}
use Rattle.vg_number.specs.Numbering.{has_reason}
use Rattle.vg_plan_columns.specs.Starts.{HasSizes, HasStarts}
use Rattle.vg_plan_columns.proofs.starting.starts.Given as goal

abbrev pub invariant-loop-index : goal.invariant-loop-index
invariant-loop-index l =
    HasStarts (map kind_of l.cells) (has_reason l.live) l.index l.starts
    × HasSizes (length l.tables.types) (map kind_of l.cells) (has_reason l.live) l.index l.sizes.items
