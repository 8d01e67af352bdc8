-- Where arrays stand.
use Rattle.std.specs.Prelude.{◌≡◌, ℕ, zero, suc, ◌+◌, ◌*◌, ◌<◌, ◌&&◌, Bool, true, false, List, [], ◌∷◌, ◌++◌, length, Some, slice_get, slice_set}
use Rattle.vg_core.specs.Heap.{Kind, ObjectOf, ArrayOf}
use Rattle.vg_firm.specs.declared.step.ArrayPlace.{ArrayPlace}
use Rattle.vg_firm.specs.declared.step.Elements.{Elements}
use Rattle.vg_firm.specs.Meaning.{arrays_of}
use Rattle.vg_numbers.specs.Numbers.{is_array_of}
use Rattle.vg_place.specs.Counting.{size_in}
use Rattle.vg_placement.specs.declared.column.Held.{Held}
use Rattle.vg_placement.specs.declared.column.Held.TheVariants.{Initial, Field as TheField, Elements as TheItems, Table as TheTable}
use Rattle.vg_placement.specs.declared.column.Column.{Column}
use Rattle.vg_placement.specs.Columns.{elements, start_of}
use Rattle.vg_pack_code.specs.Plans.{items_in}

-- An array of so many elements, behind so many others in the column of its type.
abbrev pub place_at : Elements → (start length : ℕ) → ArrayPlace
place_at e start n = record { address = e.address + e.width * start; length = n }

abbrev pub place_if : (kept : Bool) → Elements → (start : ℕ) → Kind → List ArrayPlace
place_if true e start a = place_at e start (size_in a) ∷ []
place_if false e start a = []

-- The places of the kept arrays of a type among the first cells.
abbrev pub array_row : Elements → (t : ℕ) → (kept : ℕ → Bool) → (at start : ℕ) → List Kind → (count : ℕ) → List ArrayPlace
array_row e t kept at start [] n = []
array_row e t kept at start (a ∷ κ) zero = []
array_row e t kept at start (a ∷ κ) (suc n) =
    place_if (kept at && is_array_of t a) e start a ++ array_row e t kept (suc at) (start + elements (kept at) t a) κ n

-- For each type those of its kept arrays.
pub record AreRows (κ : List Kind) (kept : ℕ → Bool) (items : List Elements) (n : ℕ) (rows : List (List ArrayPlace)) : Type 0 where
  pub types : length rows ≡ length items
  pub each : (t : ℕ) → t < length items → slice_get rows t ≡ Some (array_row (items_in (slice_get items t)) t kept 0 0 κ n)

-- An address has two bytes.
abbrev pub FitsIn : Elements → (start : ℕ) → Type 0
FitsIn e start = e.address + e.width * start < 65536

-- The addresses of kept arrays do, and so do their lengths.
abbrev pub Fit : List Kind → (kept : ℕ → Bool) → List Elements → Type 0
Fit κ kept items =
    (j t size : ℕ) → slice_get κ j ≡ Some (ArrayOf t size) → kept j ≡ true
    → (size < 65536) × FitsIn (items_in (slice_get items t)) (start_of kept t 0 κ j)

-- ---- mirrors

abbrev pub FitsPlace : List Elements → (kept : Bool) → (start : ℕ) → Kind → Type 0
FitsPlace items true start (ArrayOf t size) = (size < 65536) × FitsIn (items_in (slice_get items t)) start
FitsPlace items true start (ObjectOf c) = Unit {0}
FitsPlace items false start a = Unit {0}

abbrev pub put_at : (row : ℕ) → ArrayPlace → List (List ArrayPlace) → List (List ArrayPlace)
put_at t x rows = slice_set rows t (arrays_of (slice_get rows t) ++ x ∷ [])

abbrev pub array_noted : List Elements → (kept : Bool) → (start : ℕ) → Kind → List (List ArrayPlace) → List (List ArrayPlace)
array_noted items true start (ArrayOf t size) rows = put_at t (place_at (items_in (slice_get items t)) start size) rows
array_noted items true start (ObjectOf c) rows = rows
array_noted items false start a rows = rows

-- A column that is a table has the row of its type.
abbrev pub table_in : Held → List (List ArrayPlace) → List (List ArrayPlace)
table_in (TheTable t) rows = arrays_of (slice_get rows t) ∷ []
table_in Initial rows = []
table_in (TheField f) rows = []
table_in (TheItems t) rows = []

abbrev pub tables_of : List (List ArrayPlace) → List Column → List (List ArrayPlace)
tables_of rows [] = []
tables_of rows (c ∷ cs) = table_in c.what rows ++ tables_of rows cs
