-- Mirrors of the functions that make columns.
use Rattle.std.specs.Prelude.{◌≡◌, ℕ, ◌+◌, ◌<◌, ◌≤◌, ◌==◌, Bool, true, false, not, List, [], ◌∷◌, ◌++◌, drop, length, get_or, Option, Some, None, slice_get}
use Rattle.std.specs.Prelude.{slice_set}
use Rattle.vg_core.specs.declared.types.CoreType.{CoreType}
use Rattle.vg_core.specs.Heap.{Kind, ObjectOf, ArrayOf}
use Rattle.vg_core.specs.Tables.{is_in}
use Rattle.vg_live.specs.declared.live_set.Reason.{Reason}
use Rattle.vg_firm.specs.declared.step.Home.TheVariants.{Ram, Flash}
use Rattle.vg_numbers.specs.Numbers.{arrays_before}
use Rattle.vg_number.specs.declared.numbers.Span.{Span}
use Rattle.vg_number.specs.Numbering.{has_reason}
use Rattle.vg_placement.specs.declared.column.Column.{Column}
use Rattle.vg_placement.specs.declared.column.Held.TheVariants.{Elements as TheItems, Table as TheTable}
use Rattle.vg_placement.specs.Columns.{Needs, start_of, array_types, unless_empty, item_width, address_for}
use Rattle.vg_place.specs.Arrays.{Arrays}

-- ---- fields

abbrev pub count_of : Option Span → ℕ
count_of (Some s) = s.count
count_of None = 0

abbrev pub count_in : List Span → (c : ℕ) → ℕ
count_in spans c = count_of (slice_get spans c)

-- What the columns of fields are made of. Where a column stands does not go by what is written.
abbrev pub needs_by : List (Option Reason) → List Span → Needs
needs_by live spans =
    record { live = has_reason live; written = λ f. false; items_written = λ t. false; kept = λ j. false; count = count_in spans }

-- A column that is live, unless it has no bytes.
abbrev pub piece_of : (live : Bool) → Column → List Column
piece_of true c = unless_empty c
piece_of false c = []

-- ---- arrays

abbrev pub with_type : (first : Bool) → (t : ℕ) → List ℕ → List ℕ
with_type true t order = order ++ t ∷ []
with_type false t order = order

-- What is counted behind a cell.
abbrev pub noted : (kept : Bool) → Kind → Arrays → Arrays
noted true (ArrayOf t n) a =
    record {
      order = with_type (get_or a.counts t 0 == 0) t a.order;
      sizes = slice_set a.sizes t (get_or a.sizes t 0 + n);
      counts = slice_set a.counts t (get_or a.counts t 0 + 1);
    }
noted true (ObjectOf c) a = a
noted false k a = a

-- There is a place for a cell, and room in it.
abbrev pub HasPlace : (kept : Bool) → Kind → Arrays → Type 0
HasPlace true (ArrayOf t n) a =
    (t < length a.sizes) × (t < length a.counts) × (get_or a.sizes t 0 + n < 65536) × (get_or a.counts t 0 < 65535)
HasPlace true (ObjectOf c) a = Unit {0}
HasPlace false k a = Unit {0}

-- What was counted before a cell.
pub record HasNoted (types : ℕ) (κ : List Kind) (kept : ℕ → Bool) (n : ℕ) (a : Arrays) : Type 0 where
  pub sizes_ : length a.sizes ≡ types
  pub counts_ : length a.counts ≡ types
  pub few : length a.order ≤ n
  pub sizes : (t : ℕ) → t < types → get_or a.sizes t 0 ≡ start_of kept t 0 κ n
  pub counts : (t : ℕ) → t < types → get_or a.counts t 0 ≡ arrays_before t kept 0 κ n
  pub seen : List ℕ
  pub are_seen : (t : ℕ) → t < types → is_in seen t ≡ not (get_or a.counts t 0 == 0)
  pub order : a.order ++ array_types kept seen n (drop n κ) ≡ array_types kept [] 0 κ

-- The elements of a cell.
abbrev pub size_in : Kind → ℕ
size_in (ArrayOf t n) = n
size_in (ObjectOf c) = 0

abbrev pub elements_in : List Kind → ℕ
elements_in [] = 0
elements_in (a ∷ κ) = size_in a + elements_in κ

-- ---- columns of elements and tables

abbrev pub width_at : List CoreType → (t : ℕ) → ℕ
width_at types t = item_width (slice_get types t)

abbrev pub item_by : List CoreType → (sizes : List ℕ) → (t : ℕ) → Column
item_by types sizes t = record { what = TheItems t; home = Ram; at = 0; width = width_at types t; count = get_or sizes t 0 }

abbrev pub item_columns_by : List CoreType → (sizes : List ℕ) → List ℕ → List Column
item_columns_by types sizes [] = []
item_columns_by types sizes (t ∷ ts) = unless_empty (item_by types sizes t) ++ item_columns_by types sizes ts

abbrev pub table_by : (counts : List ℕ) → (t : ℕ) → Column
table_by counts t = record { what = TheTable t; home = Flash; at = 0; width = 4; count = get_or counts t 0 }

-- ---- addresses

abbrev pub placed_one : (ram flash : ℕ) → Column → Column
placed_one ram flash c = record { what = c.what; home = c.home; at = address_for c.home ram flash; width = c.width; count = c.count }
