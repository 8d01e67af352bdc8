-- What the tables of a program can hold: a row of entries for each column in RAM and a row of arrays for each table, all of which fit.
use Rattle.std.specs.Prelude.{◌≡◌, ℕ, ◌^◌, ◌<◌, List, [], ◌∷◌, length, map}
use Rattle.std.specs.List.{AllByRecursion}
use Rattle.vg_codes.specs.Codes.{Codes}
use Rattle.vg_firm.specs.declared.step.ArrayPlace.{ArrayPlace}
use Rattle.vg_placement.specs.declared.column.Column.{Column}
use Rattle.vg_placement.specs.declared.column.Held.{Held}
use Rattle.vg_placement.specs.declared.column.Held.TheVariants.{Initial, Field as TheField, Elements as TheItems, Table as TheTable}
use Rattle.vg_tables.specs.declared.entry.Entry.{Entry}
use Rattle.vg_tables.specs.declared.entry.Entry.TheVariants.{Number, Delegate}
use Rattle.vg_packed.specs.declared.program.FirmProgram.{FirmProgram}
use Rattle.vg_packed.specs.Packed.{count_of, ram_columns}

-- The tables of arrays, in their order.
abbrev pub if_table : Held → Column → List Column → List Column
if_table (TheTable t) c cs = c ∷ cs
if_table (TheField f) c cs = cs
if_table (TheItems t) c cs = cs
if_table Initial c cs = cs

abbrev pub tables_in : List Column → List Column
tables_in [] = []
tables_in (c ∷ cs) = if_table c.what c (tables_in cs)

-- So many bytes hold an entry: a number that is small enough, or a delegate, which has four, two of its code number and two of its receiver.
abbrev pub EntryFits : Codes → (width : ℕ) → Entry → Type 0
EntryFits k width (Number n) = n < 256 ^ width
EntryFits k width (Delegate q r) = (width ≡ 4) × (k.code q < 65536) × (r < 65536)

-- Columns have the entries of these rows, one row each, and each entry fits.
abbrev pub RowsFit : Codes → List Column → List (List Entry) → Type 0
RowsFit k [] rows = Unit {0}
RowsFit k (c ∷ cs) [] = Unit {0}
RowsFit k (c ∷ cs) (es ∷ rows) = AllByRecursion (EntryFits k c.width) es × RowsFit k cs rows

-- The address and the length of an array have two bytes each.
abbrev pub ArrayFits : ArrayPlace → Type 0
ArrayFits a = (a.address < 65536) × (a.length < 65536)

-- A packed program has a row of entries for each column in RAM, as long as the column, and a row of arrays for each table; all of them fit.
pub record HasRows (k : Codes) (list : List Column) (f : FirmProgram) : Type 0 where
  pub lengths : map length f.columns ≡ map count_of (ram_columns list)
  pub entries : RowsFit k (ram_columns list) f.columns
  pub rows : map length f.tables ≡ map count_of (tables_in list)
  pub arrays : AllByRecursion (AllByRecursion ArrayFits) f.tables
