-- The bytes of all tables.
use Rattle.std.specs.Prelude.{ℕ, suc, List, [], ◌∷◌, ◌++◌, Option, Some, None, slice_get}
use Rattle.vg_firm.specs.declared.step.ArrayPlace.{ArrayPlace}
use Rattle.vg_firm.specs.declared.step.Home.{Home}
use Rattle.vg_firm.specs.declared.step.Home.TheVariants.{Ram, Flash}
use Rattle.vg_placement.specs.declared.column.Column.{Column}
use Rattle.vg_tables.specs.declared.datum.Datum.{Datum}
use Rattle.vg_tables.specs.declared.entry.Entry.{Entry}
use Rattle.vg_tables.specs.Bytes.{array_bytes, entry_bytes}

-- The widths of the columns in RAM.
abbrev pub width_in : Home → (width : ℕ) → List ℕ
width_in Ram width = width ∷ []
width_in Flash width = []

abbrev pub ram_widths : List Column → List ℕ
ram_widths [] = []
ram_widths (c ∷ cs) = width_in c.home c.width ++ ram_widths cs

-- The entries of a column.
abbrev pub entries_bytes : (width : ℕ) → List Entry → List Datum
entries_bytes width [] = []
entries_bytes width (e ∷ es) = entry_bytes width e ++ entries_bytes width es

abbrev pub column_bytes : Option ℕ → List Entry → List Datum
column_bytes (Some width) es = entries_bytes width es
column_bytes None es = []

-- Columns from one place on, each with the width that stands at its place.
abbrev pub columns_bytes : (widths : List ℕ) → (place : ℕ) → List (List Entry) → List Datum
columns_bytes widths i [] = []
columns_bytes widths i (es ∷ rows) = column_bytes (slice_get widths i) es ++ columns_bytes widths (suc i) rows

-- The arrays of one table, and those of all.
abbrev pub arrays_bytes : List ArrayPlace → List Datum
arrays_bytes [] = []
arrays_bytes (a ∷ places) = array_bytes a ++ arrays_bytes places

abbrev pub rows_bytes : List (List ArrayPlace) → List Datum
rows_bytes [] = []
rows_bytes (r ∷ rows) = arrays_bytes r ++ rows_bytes rows

-- The initial copy of the columns, and the tables of arrays behind it.
abbrev pub table_bytes_of : (widths : List ℕ) → List (List Entry) → List (List ArrayPlace) → List Datum
table_bytes_of widths columns tables = columns_bytes widths 0 columns ++ rows_bytes tables
