use Rattle.std.proofs.Common.{◌≡◌, ◌≤◌, drop, map}
use Rattle.vg_plan_columns.specs.Items.{items_from, no_items}
use Rattle.vg_plan_columns.proofs.items.item_places.Given as goal

abbrev pub invariant-loop-index : goal.invariant-loop-index
invariant-loop-index l =
    (items_from l.ram l.flash l.tables (drop l.index l.columns) l.items.items ≡ items_from 0 0 0 l.columns (map no_items l.types))
    × (l.ram ≤ l.index)
    × (l.flash ≤ l.index)
    × (l.tables ≤ l.index)
