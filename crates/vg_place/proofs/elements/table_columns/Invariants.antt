use Rattle.std.proofs.Common.{◌≡◌, ◌++◌, drop, map}
use Rattle.vg_place.specs.Counting.{table_by}
use Rattle.vg_place.proofs.elements.table_columns.Given as goal

abbrev pub invariant-loop-element : goal.invariant-loop-element
invariant-loop-element l = l.rows ++ map (table_by l.counts) (drop l.element-index l.order) ≡ map (table_by l.counts) l.order
