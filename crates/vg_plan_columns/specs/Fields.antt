-- The columns of fields. (Mirrors of the code's loop: Columns in proofs/ leads from them to what layouts ask for.)
use Rattle.std.specs.Prelude.{ℕ, List, [], ◌∷◌, Option, Some, slice_set}
use Rattle.vg_firm.specs.declared.step.Home.{Home}
use Rattle.vg_placement.specs.declared.column.Held.{Held}
use Rattle.vg_placement.specs.declared.column.Held.TheVariants.{Initial, Field as TheField, Elements as TheItems, Table as TheTable}
use Rattle.vg_placement.specs.declared.column.Column.{Column}
use Rattle.vg_placement.specs.Columns.{address_for, ram_behind, flash_behind}
use Rattle.vg_pack_code.specs.declared.plan.ColumnPlace.{ColumnPlace}

-- A field has this column.
abbrev pub field_noted : Held → Home → (column : ℕ) → List (Option ColumnPlace) → List (Option ColumnPlace)
field_noted (TheField f) home c rows = slice_set rows f (Some (record { home = home; column = c }))
field_noted Initial home c rows = rows
field_noted (TheItems t) home c rows = rows
field_noted (TheTable t) home c rows = rows

-- The columns of fields among these, where so many columns stand in RAM before them, and so many in flash.
abbrev pub fields_from : (ram flash : ℕ) → List Column → List (Option ColumnPlace) → List (Option ColumnPlace)
fields_from ram flash [] rows = rows
fields_from ram flash (c ∷ cs) rows =
    fields_from (ram_behind c.home ram 1) (flash_behind c.home flash 1) cs (field_noted c.what c.home (address_for c.home ram flash) rows)
