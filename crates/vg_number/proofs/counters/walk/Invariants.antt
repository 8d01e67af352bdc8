use Rattle.std.proofs.Common.{map}
use Rattle.vg_core.specs.Heap.{kind_of}
use Rattle.vg_number.specs.Counting.{HasWalked}
use Rattle.vg_number.specs.Numbering.{has_reason}
use Rattle.vg_number.proofs.counters.walk.Given as goal

abbrev pub invariant-loop-index : goal.invariant-loop-index
invariant-loop-index l = HasWalked (map kind_of l.cells) (has_reason l.live) l.fn.counters l.index l.of_cell l.counters
