-- How many elements stand before those of an array. (Mirrors of the code's loop, and what it counts.)
use Rattle.std.specs.Prelude.{◌≡◌, ℕ, ◌+◌, ◌<◌, Bool, true, false, List, length, get_or, Some, slice_get, slice_set}
use Rattle.vg_core.specs.Heap.{Kind, ObjectOf, ArrayOf}
use Rattle.vg_placement.specs.Columns.{start_of}

abbrev pub start_noted : Kind → (sizes : List ℕ) → ℕ
start_noted (ObjectOf c) sizes = 0
start_noted (ArrayOf t n) sizes = get_or sizes t 0

abbrev pub size_noted : (kept : Bool) → Kind → (sizes : List ℕ) → List ℕ
size_noted true (ArrayOf t n) sizes = slice_set sizes t (get_or sizes t 0 + n)
size_noted true (ObjectOf c) sizes = sizes
size_noted false a sizes = sizes

-- There is a place for the elements of a cell, and room in it.
abbrev pub HasSize : (kept : Bool) → Kind → (sizes : List ℕ) → Type 0
HasSize true (ArrayOf t n) sizes = (t < length sizes) × (get_or sizes t 0 + n < 65536)
HasSize true (ObjectOf c) sizes = Unit {0}
HasSize false a sizes = Unit {0}

-- The elements of each of so many types before a cell.
pub record HasSizes (types : ℕ) (κ : List Kind) (kept : ℕ → Bool) (n : ℕ) (sizes : List ℕ) : Type 0 where
  pub types_ : length sizes ≡ types
  pub each : (t : ℕ) → t < types → get_or sizes t 0 ≡ start_of kept t 0 κ n

-- How many elements stand before those of the arrays in the first cells.
pub record HasStarts (κ : List Kind) (kept : ℕ → Bool) (n : ℕ) (starts : List ℕ) : Type 0 where
  pub cells : length starts ≡ n
  pub each : (j t size : ℕ) → j < n → slice_get κ j ≡ Some (ArrayOf t size) → get_or starts j 0 ≡ start_of kept t 0 κ j
