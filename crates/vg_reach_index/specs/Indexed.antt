-- What an index says of the tables of a program and of a heap.
use Rattle.std.specs.Prelude.{◌≡◌, ℕ, ◌<◌, Bool, List, [], ◌∷◌, ◌++◌, length, Option, Some, None, slice_get, slice_set, if◌then◌else◌}
use Rattle.vg_core.specs.declared.heap.Heap.{Heap}
use Rattle.vg_core.specs.declared.program.Method.{Method}
use Rattle.vg_core.specs.declared.program.Tables.{Tables}
use Rattle.vg_core.specs.Heap.{class_in}
use Rattle.vg_core.specs.Tables.{is_below, dispatch, slot_of}
use Rattle.vg_reach_index.specs.declared.class_row.ClassRow.{ClassRow}
use Rattle.vg_reach_index.specs.declared.index.Index.{Index}

-- A number stands in a list.
abbrev pub Has : List ℕ → ℕ → Type 0
Has xs n = (i : ℕ) × (slice_get xs i ≡ Some n)

-- The method that objects of class d find for a selector on the static class c, where they are of c or below it.
abbrev pub finds : Tables → (d c s : ℕ) → Option ℕ
finds t d c s = if is_below t d c then dispatch t d s else None

-- ---- rows of a class: what they hold is right

abbrev pub IsBelowRow : Tables → (d : ℕ) → List Bool → Type 0
IsBelowRow t d row = (c : ℕ) (b : Bool) → slice_get row c ≡ Some b → b ≡ is_below t d c

abbrev pub IsMethodRow : Tables → (d : ℕ) → List (Option ℕ) → Type 0
IsMethodRow t d row = (s : ℕ) (m : Option ℕ) → slice_get row s ≡ Some m → m ≡ dispatch t d s

pub record IsRow (t : Tables) (d : ℕ) (row : ClassRow) : Type 0 where
  pub below : IsBelowRow t d row.below
  pub methods : IsMethodRow t d row.methods
  pub fields : (f i : ℕ) → slot_of t d f ≡ Some i → Has row.fields f

abbrev pub AreRows : Tables → List ClassRow → Type 0
AreRows t rows = (d : ℕ) (row : ClassRow) → slice_get rows d ≡ Some row → IsRow t d row

-- ---- the index

abbrev pub row_in : Option (List ℕ) → List ℕ
row_in (Some row) = row
row_in None = []

abbrev pub row_at : List (List ℕ) → (d : ℕ) → List ℕ
row_at rows d = row_in (slice_get rows d)

abbrev pub fields_in : Option ClassRow → List ℕ
fields_in (Some row) = row.fields
fields_in None = []

-- The fields that objects of class d have, and the cells of the objects of class d.
abbrev pub fields_at : Index → (d : ℕ) → List ℕ
fields_at x d = fields_in (slice_get x.classes d)

abbrev pub cells_at : Index → (d : ℕ) → List ℕ
cells_at x d = row_at x.cells d

pub record Indexes (t : Tables) (h : Heap) (x : Index) : Type 0 where
  pub rows : AreRows t x.classes
  pub classes : length x.classes ≡ length t.classes
  pub cells : (k d : ℕ) → class_in (slice_get h.cells k) ≡ Some d → d < length t.classes → Has (cells_at x d) k

-- ---- mirrors of the functions that make rows

abbrev pub put_at : Option (Option ℕ) → (place number : ℕ) → List (Option ℕ) → List (Option ℕ)
put_at (Some None) place number row = slice_set row place (Some number)
put_at _ place number row = row

abbrev pub first_of : (place number : ℕ) → List (Option ℕ) → List (Option ℕ)
first_of place number row = put_at (slice_get row place) place number row

abbrev pub methods_at : (m : ℕ) → Option Method → List (Option ℕ) → List (Option ℕ)
methods_at m (Some y) row = first_of y.selector m row
methods_at m None row = row

-- A cell is in the row of its class, where that is there; what is in rows stays.
pub record KeepsCells (old new : List (List ℕ)) (d k : ℕ) : Type 0 where
  pub same : length new ≡ length old
  pub put : d < length old → Has (row_at new d) k
  pub kept : (e j : ℕ) → Has (row_at old e) j → Has (row_at new e) j

-- A cell is in the row of its class, where it is an object.
pub record Sorts (h : Heap) (old new : List (List ℕ)) (k : ℕ) : Type 0 where
  pub same : length new ≡ length old
  pub put : (d : ℕ) → class_in (slice_get h.cells k) ≡ Some d → d < length old → Has (row_at new d) k
  pub kept : (e j : ℕ) → Has (row_at old e) j → Has (row_at new e) j
