use Rattle.std.proofs.Common.{◌≡◌, ◌≤◌, None, drop, replicate}
use Rattle.vg_plan_columns.specs.Fields.{fields_from}
use Rattle.vg_plan_columns.proofs.fields.field_places.Given as goal

abbrev pub invariant-loop-index : goal.invariant-loop-index
invariant-loop-index l =
    (fields_from l.ram l.flash (drop l.index l.columns) l.places.items ≡ fields_from 0 0 l.columns (replicate l.fields None))
    × (l.ram ≤ l.index)
    × (l.flash ≤ l.index)
