use Rattle.std.proofs.Common.{length, map}
use Rattle.vg_core.specs.Heap.{kind_of}
use Rattle.vg_number.specs.Numbering.{has_reason}
use Rattle.vg_place.specs.Counting.{HasNoted}
use Rattle.vg_place.proofs.arrays.arrays_of.Given as goal

abbrev pub invariant-loop-index : goal.invariant-loop-index
invariant-loop-index l = HasNoted (length l.tables.types) (map kind_of l.cells) (has_reason l.live) l.index l.arrays
