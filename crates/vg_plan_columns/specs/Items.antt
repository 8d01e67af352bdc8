-- The elements of arrays. (Mirrors of the code's loop.)
use Rattle.std.specs.Prelude.{ℕ, ◌+◌, List, [], ◌∷◌, slice_get, slice_set}
use Rattle.vg_core.specs.declared.types.CoreType.{CoreType}
use Rattle.vg_firm.specs.declared.step.Elements.{Elements}
use Rattle.vg_firm.specs.declared.step.Home.{Home}
use Rattle.vg_firm.specs.declared.step.Home.TheVariants.{Ram}
use Rattle.vg_placement.specs.declared.column.Held.{Held}
use Rattle.vg_placement.specs.declared.column.Held.TheVariants.{Initial, Field as TheField, Elements as TheItems, Table as TheTable}
use Rattle.vg_placement.specs.declared.column.Column.{Column}
use Rattle.vg_placement.specs.Columns.{address_for, ram_behind, flash_behind, column_width}
use Rattle.vg_pack_code.specs.Plans.{items_in, no_column, no_table}

-- The elements of a type that has neither a column nor a table.
abbrev pub no_items : CoreType → Elements
no_items t = record { home = Ram; column = no_column; address = 0; table = no_table; width = column_width t }

-- The elements of the type t stand in this column.
abbrev pub stood : (t : ℕ) → Home → (column address : ℕ) → List Elements → List Elements
stood t home c at rows =
    slice_set rows t (record {
      home = home;
      column = c;
      address = at;
      table = (items_in (slice_get rows t)).table;
      width = (items_in (slice_get rows t)).width;
    })

-- The arrays of the type t are in this table.
abbrev pub tabled : (t table : ℕ) → List Elements → List Elements
tabled t n rows =
    slice_set rows t (record {
      home = (items_in (slice_get rows t)).home;
      column = (items_in (slice_get rows t)).column;
      address = (items_in (slice_get rows t)).address;
      table = n;
      width = (items_in (slice_get rows t)).width;
    })

abbrev pub tables_behind : Held → ℕ → ℕ
tables_behind (TheTable t) n = n + 1
tables_behind Initial n = n
tables_behind (TheField f) n = n
tables_behind (TheItems t) n = n

abbrev pub held_noted : Held → Home → (column address table : ℕ) → List Elements → List Elements
held_noted (TheItems t) home c at n rows = stood t home c at rows
held_noted (TheTable t) home c at n rows = tabled t n rows
held_noted Initial home c at n rows = rows
held_noted (TheField f) home c at n rows = rows

-- What a column has of the arrays of a type.
abbrev pub item_noted : Column → (column table : ℕ) → List Elements → List Elements
item_noted c place n rows = held_noted c.what c.home place c.at n rows

-- The elements in these columns, where so many columns stand in RAM before them, so many in flash, and so many of these are tables.
abbrev pub items_from : (ram flash tables : ℕ) → List Column → List Elements → List Elements
items_from ram flash n [] rows = rows
items_from ram flash n (c ∷ cs) rows =
    items_from (ram_behind c.home ram 1) (flash_behind c.home flash 1) (tables_behind c.what n) cs (item_noted c (address_for c.home ram flash) n rows)
