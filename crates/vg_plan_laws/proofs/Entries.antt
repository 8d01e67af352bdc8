-- The entries of rows, and the numbers that they are.
use Rattle.std.proofs.Common.{◌≡◌, ◌⊎◌, refl, ap, ◌∙◌, ℕ, zero, suc, List, [], ◌∷◌, ◌++◌, map, replicate, option_map, Option, Some, None, slice_get}
use Rattle.std.specs.List.{AllByRecursion}
use Rattle.std.proofs.lemmas.Option.{slice_get-map}
use mathlib.Core.Logic.{inl, inr}
use Rattle.vg_codes.specs.Codes.{Codes}
use Rattle.vg_firm.specs.declared.step.Home.{Home}
use Rattle.vg_firm.specs.declared.step.Home.TheVariants.{Ram, Flash}
use Rattle.vg_firm.specs.Meaning.{column_of, entry}
use Rattle.vg_placement.specs.declared.column.Column.{Column}
use Rattle.vg_tables.specs.declared.entry.Entry.{Entry}
use Rattle.vg_tables.specs.declared.entry.Entry.TheVariants.{Number}
use Rattle.vg_tables.specs.Entries.{number_in}
use Rattle.vg_pack_values.specs.Columns.{numbers_in, row_at, blank_if, blank_rows}
use Rattle.vg_table_bytes.specs.Rows.{EntryFits, RowsFit}

abbrev pub entry_in : List (List Entry) → (column i : ℕ) → Option Entry
entry_in rows c i = slice_get (row_at (slice_get rows c)) i

pub entry_is : (k : Codes) (rows : List (List Entry)) (c i : ℕ) → entry (numbers_in k rows) c i ≡ option_map (number_in k) (entry_in rows c i)
entry_is k rows c i =
    ap (λ z. slice_get (column_of z) i) (slice_get-map (λ entries. map (number_in k) entries) rows c) ∙ by (slice_get rows c)
  where
    by : (o : Option (List Entry)) → slice_get (column_of (option_map (λ entries. map (number_in k) entries) o)) i ≡ option_map (number_in k) (slice_get (row_at o) i)
    by None = refl
    by (Some es) = slice_get-map (number_in k) es i

-- ---- rows without values

abbrev IsBlank : Option Entry → Type 0
IsBlank o = (o ≡ None) ⊎ (o ≡ Some (Number 0))

blank_in : (count i : ℕ) → IsBlank (slice_get (replicate count (Number 0)) i)
blank_in zero i = inl refl
blank_in (suc count) zero = inr refl
blank_in (suc count) (suc i) = blank_in count i

pub blank_entry : (cs : List Column) (c i : ℕ) → IsBlank (entry_in (blank_rows cs) c i)
blank_entry [] c i = inl refl
blank_entry (d ∷ cs) c i = by d.home c (λ j. blank_entry cs j i)
  where
    by : (h : Home) (c : ℕ) → ((j : ℕ) → IsBlank (entry_in (blank_rows cs) j i)) → IsBlank (entry_in (blank_if h d.count ++ blank_rows cs) c i)
    by Ram zero rest = blank_in d.count i
    by Ram (suc c) rest = rest c
    by Flash c rest = rest c

-- ---- rows fit where each of their entries does

entries_fit : (k : Codes) (w : ℕ) (es : List Entry) → ((i : ℕ) (e : Entry) → slice_get es i ≡ Some e → EntryFits k w e) → AllByRecursion (EntryFits k w) es
entries_fit k w [] fit = tt
entries_fit k w (e ∷ es) fit = (fit 0 e refl, entries_fit k w es (λ i. fit (suc i)))

pub rows_fit : (k : Codes) (cs : List Column) (rows : List (List Entry))
    → ((c i : ℕ) (d : Column) (e : Entry) → slice_get cs c ≡ Some d → entry_in rows c i ≡ Some e → EntryFits k d.width e) → RowsFit k cs rows
rows_fit k [] rows fit = tt
rows_fit k (d ∷ cs) [] fit = tt
rows_fit k (d ∷ cs) (es ∷ rows) fit = (entries_fit k d.width es (λ i e q. fit 0 i d e refl q), rows_fit k cs rows (λ c. fit (suc c)))
