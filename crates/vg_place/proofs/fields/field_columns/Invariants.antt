use Rattle.std.proofs.Common.{◌≡◌, ◌≤◌, ◌++◌, drop, length}
use Rattle.vg_placement.specs.Columns.{field_columns}
use Rattle.vg_place.specs.Counting.{needs_by}
use Rattle.vg_place.proofs.fields.field_columns.Given as goal

abbrev pub invariant-loop-index : goal.invariant-loop-index
invariant-loop-index l =
    (l.rows ++ field_columns (needs_by l.live l.spans) l.index (drop l.index l.fields) ≡ field_columns (needs_by l.live l.spans) 0 l.fields)
    × (length l.rows ≤ l.index)
