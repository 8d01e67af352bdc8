use Rattle.std.proofs.Common.{◌≡◌, ◌≤◌, ◌++◌, drop, length}
use Rattle.vg_place.specs.Counting.{item_columns_by}
use Rattle.vg_place.proofs.elements.item_columns.Given as goal

abbrev pub invariant-loop-element : goal.invariant-loop-element
invariant-loop-element l =
    (l.rows ++ item_columns_by l.types l.sizes (drop l.element-index l.order) ≡ item_columns_by l.types l.sizes l.order)
    × (length l.rows ≤ l.element-index)
