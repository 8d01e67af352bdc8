-- The bytes of tables are bytes.
use Rattle.std.specs.Prelude.{ℕ, zero, suc, ◌/◌, ◌<◌, ◌≤◌, List, [], ◌∷◌, ◌++◌, length, map, Option, Some, None, slice_get}
use Rattle.std.specs.List.{AllByRecursion}
use Rattle.std.proofs.Common.{sym, subst, arith}
use Rattle.std.proofs.Math.Nat.{mod-lt}
use Rattle.std.proofs.lemmas.List.{map-append}
use Rattle.vg_codes.specs.Codes.{Codes}
use Rattle.vg_firm.specs.declared.step.ArrayPlace.{ArrayPlace}
use Rattle.vg_placement.specs.declared.column.Column.{Column}
use Rattle.vg_tables.specs.declared.datum.Datum.{Datum}
use Rattle.vg_tables.specs.declared.entry.Entry.{Entry}
use Rattle.vg_tables.specs.declared.entry.Entry.TheVariants.{Number, Delegate}
use Rattle.vg_tables.specs.Bytes.{byte_of, low_bytes, entry_bytes, array_bytes}
use Rattle.vg_table_bytes.specs.Bytes.{entries_bytes, column_bytes, columns_bytes, arrays_bytes, rows_bytes, table_bytes_of}
use Rattle.vg_table_bytes.specs.Rows.{EntryFits, RowsFit}
use Rattle.vg_trimming.specs.Runs.{AreBytes}

all_append : (a b : List ℕ) → AreBytes a → AreBytes b → AreBytes (a ++ b)
all_append [] b h k = k
all_append (x ∷ a) b (h, more) k = (h, all_append a b more k)

module _ (k : Codes) where
  abbrev Are : List Datum → Type 0
  Are ds = AreBytes (map (byte_of k) ds)

  joined : (a b : List Datum) → Are a → Are b → Are (a ++ b)
  joined a b h g = subst AreBytes (sym (map-append (byte_of k) a b)) (all_append (map (byte_of k) a) (map (byte_of k) b) h g)

  low_are : (w n : ℕ) → Are (low_bytes w n)
  low_are zero n = tt
  low_are (suc w) n = (mod-lt n (omega arith), low_are w (n / 256))

  entry_are : (w width : ℕ) (e : Entry) → EntryFits k width e → Are (entry_bytes w e)
  entry_are w width (Number n) h = low_are w n
  entry_are w width (Delegate q r) (four, code, receiver) =
      let upper : k.code q / 256 < 256 = omega (arith, code) in (mod-lt (k.code q) (omega arith), (upper, low_are 2 r))

  entries_are : (w width : ℕ) (es : List Entry) → AllByRecursion (EntryFits k width) es → Are (entries_bytes w es)
  entries_are w width [] h = tt
  entries_are w width (e ∷ es) (h, more) = joined (entry_bytes w e) (entries_bytes w es) (entry_are w width e h) (entries_are w width es more)

  column_are : (o : Option ℕ) (width : ℕ) (es : List Entry) → AllByRecursion (EntryFits k width) es → Are (column_bytes o es)
  column_are (Some w) width es h = entries_are w width es h
  column_are None width es h = tt

  all_columns : (ws : List ℕ) (i : ℕ) (cs : List Column) (rows : List (List Entry)) → RowsFit k cs rows → length rows ≤ length cs
      → Are (columns_bytes ws i rows)
  all_columns ws i cs [] h few = tt
  all_columns ws i [] (es ∷ rows) h few = absurd (omega (arith, few))
  all_columns ws i (c ∷ cs) (es ∷ rows) (h, more) few =
      joined (column_bytes (slice_get ws i) es) (columns_bytes ws (suc i) rows) (column_are (slice_get ws i) c.width es h)
      (all_columns ws (suc i) cs rows more (omega (arith, few)))

  array_are : (a : ArrayPlace) → Are (array_bytes a)
  array_are a = joined (low_bytes 2 a.address) (low_bytes 2 a.length) (low_are 2 a.address) (low_are 2 a.length)

  arrays_are : (places : List ArrayPlace) → Are (arrays_bytes places)
  arrays_are [] = tt
  arrays_are (a ∷ places) = joined (array_bytes a) (arrays_bytes places) (array_are a) (arrays_are places)

  rows_are : (rows : List (List ArrayPlace)) → Are (rows_bytes rows)
  rows_are [] = tt
  rows_are (r ∷ rows) = joined (arrays_bytes r) (rows_bytes rows) (arrays_are r) (rows_are rows)

-- those of the columns
pub columns_are : (ws : List ℕ) (k : Codes) (i : ℕ) (cs : List Column) (rows : List (List Entry)) → RowsFit k cs rows → length rows ≤ length cs
    → AreBytes (map (byte_of k) (columns_bytes ws i rows))
columns_are ws k i cs rows h few = all_columns k ws i cs rows h few

-- those of all tables
pub tables_are : (k : Codes) (ws : List ℕ) (cs : List Column) (columns : List (List Entry)) → RowsFit k cs columns → length columns ≤ length cs
    → (tables : List (List ArrayPlace)) → AreBytes (map (byte_of k) (table_bytes_of ws columns tables))
tables_are k ws cs columns h few tables =
    joined k (columns_bytes ws 0 columns) (rows_bytes tables) (all_columns k ws 0 cs columns h few) (rows_are k tables)
