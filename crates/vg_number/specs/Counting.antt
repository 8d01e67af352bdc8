-- Mirrors of the functions that count.
use Rattle.std.specs.Prelude.{◌≡◌, ℕ, zero, suc, ◌+◌, ◌<◌, ◌≤◌, ◌==◌, ◌&&◌, Bool, true, false, List, [], ◌∷◌, length, get_or, Option, Some, None}
use Rattle.std.specs.Prelude.{slice_get, slice_set}
use Rattle.std.specs.Prelude.{if◌then◌else◌}
use Rattle.vg_core.specs.declared.program.Class.{Class}
use Rattle.vg_core.specs.declared.program.Tables.{Tables}
use Rattle.vg_core.specs.Heap.{Kind, ObjectOf, ArrayOf}
use Rattle.vg_core.specs.State.{onto}
use Rattle.vg_core.specs.Tables.{one_hierarchy}
use Rattle.vg_numbers.specs.Keys.{Where, Earlier, Inside, Later, place}
use Rattle.vg_numbers.specs.Numbers.{way, one_if, arrays_before, number}
use Rattle.vg_number.specs.declared.standing.Standing.{Standing}
use Rattle.vg_number.specs.declared.standing.Standing.TheVariants as standing
use Rattle.vg_number.specs.declared.numbers.Span.{Span}
use Rattle.vg_number.specs.Counts.{Counts}
use Rattle.vg_number.specs.Numbering.{span}

-- ---- ways

abbrev pub where_of : Standing → Where
where_of standing.Earlier = Earlier
where_of standing.Inside = Inside
where_of standing.Later = Later

abbrev pub way_in : Class → List ℕ
way_in k = onto k.above []

-- Where an object of class d stands against class c, in one hierarchy.
abbrev pub stand : Tables → (c d : ℕ) → Option Where
stand p c d = if one_hierarchy p d c then Some (place (way p c) (way p d)) else None

abbrev pub where_in : Option Standing → Option Where
where_in (Some s) = Some (where_of s)
where_in None = None

-- A test of where it stands holds, where both are of one hierarchy.
abbrev pub holds_in : (Where → Bool) → Option Where → Bool
holds_in g (Some w) = g w
holds_in g None = false

abbrev pub stands_earlier : Where → Bool
stands_earlier Earlier = true
stands_earlier _ = false

abbrev pub stands_inside : Where → Bool
stands_inside Inside = true
stands_inside _ = false

abbrev pub is_before : Option Where → Bool
is_before o = holds_in stands_earlier o

abbrev pub is_within : Option Where → Bool
is_within o = holds_in stands_inside o

-- ---- counts

abbrev pub is_object_of : (c : ℕ) → Kind → Bool
is_object_of c (ObjectOf d) = d == c
is_object_of c (ArrayOf t size) = false

-- How many of the first cells hold kept objects of a class itself.
abbrev pub own_before : (c : ℕ) → (kept : ℕ → Bool) → (at : ℕ) → List Kind → (count : ℕ) → ℕ
own_before c kept at [] n = 0
own_before c kept at (a ∷ κ) zero = 0
own_before c kept at (a ∷ κ) (suc n) = one_if (kept at && is_object_of c a) + own_before c kept (suc at) κ n

-- The sum over the classes below n of which this holds.
abbrev pub summed : (ℕ → Bool) → (ℕ → ℕ) → (n : ℕ) → ℕ
summed b f zero = 0
summed b f (suc n) = summed b f n + (if b n then f n else 0)

-- ---- counters

-- What the counters have counted before a cell, from where they began.
pub record HasCounted (κ : List Kind) (kept : ℕ → Bool) (begun : Counts) (n : ℕ) (now : Counts) : Type 0 where
  pub classes : length now.objects ≡ length begun.objects
  pub types : length now.arrays ≡ length begun.arrays
  pub objects : (d : ℕ) → d < length begun.objects → get_or now.objects d 0 ≡ get_or begun.objects d 0 + own_before d kept 0 κ n
  pub arrays : (t : ℕ) → t < length begun.arrays → get_or now.arrays t 0 ≡ get_or begun.arrays t 0 + arrays_before t kept 0 κ n

-- What a kept cell of a kind is handed.
abbrev pub handed : (kept : Bool) → Option Kind → Counts → ℕ
handed true (Some (ObjectOf d)) now = get_or now.objects d 0
handed true (Some (ArrayOf t size)) now = get_or now.arrays t 0
handed _ _ now = 0

abbrev pub raised : (place : ℕ) → List ℕ → List ℕ
raised i ns = slice_set ns i (get_or ns i 0 + 1)

-- The counters behind a cell.
abbrev pub counted : (kept : Bool) → Kind → Counts → Counts
counted true (ObjectOf d) now = record { objects = raised d now.objects; arrays = now.arrays }
counted true (ArrayOf t size) now = record { objects = now.objects; arrays = raised t now.arrays }
counted false a now = now

-- The counter of a cell is there, and can be raised.
abbrev pub HasRoom : (kept : Bool) → Kind → Counts → Type 0
HasRoom true (ObjectOf d) now = (d < length now.objects) × (get_or now.objects d 0 < 65535)
HasRoom true (ArrayOf t size) now = (t < length now.arrays) × (get_or now.arrays t 0 < 65535)
HasRoom false a now = Unit {0}

-- All counters can be raised through all cells.
abbrev pub HaveRoom : List Kind → (kept : ℕ → Bool) → Counts → Type 0
HaveRoom κ kept begun =
    (n : ℕ) (a : Kind) (now : Counts) → slice_get κ n ≡ Some a → HasCounted κ kept begun n now → HasRoom (kept n) a now

-- What a walk over the first cells leaves: the counters, and what each cell was handed.
pub record HasWalked (κ : List Kind) (kept : ℕ → Bool) (begun : Counts) (n : ℕ) (of_cell : List ℕ) (now : Counts) : Type 0 where
  pub counters : HasCounted κ kept begun n now
  pub cells : length of_cell ≡ n
  pub each : (j : ℕ) → j < n
      → (then_ : Counts) × HasCounted κ kept begun j then_ × (slice_get of_cell j ≡ Some (handed (kept j) (slice_get κ j) then_))

-- Counts of the own objects of each of so many classes.
pub record AreOwn (κ : List Kind) (kept : ℕ → Bool) (classes : ℕ) (own : List ℕ) : Type 0 where
  pub classes_ : length own ≡ classes
  pub counts : (d : ℕ) → d < classes → get_or own d 0 ≡ own_before d kept 0 κ (length κ)

-- Sums of them have two bytes.
abbrev pub AreSmall : List ℕ → Type 0
AreSmall own = (b : ℕ → Bool) (n : ℕ) → n ≤ length own → summed b (λ d. get_or own d 0) n ≤ 60000

-- The interval of a class by the counts of classes.
abbrev pub span_by : Tables → (own : List ℕ) → (c : ℕ) → Span
span_by p own c =
    record {
      first = 1 + summed (λ d. is_before (stand p c d)) (λ d. get_or own d 0) (length own);
      count = summed (λ d. is_within (stand p c d)) (λ d. get_or own d 0) (length own);
    }

pub record AreSpansBy (p : Tables) (own : List ℕ) (spans : List Span) : Type 0 where
  pub classes_ : length spans ≡ length own
  pub each : (c : ℕ) → c < length own → slice_get spans c ≡ Some (span_by p own c)

-- Intervals as they are.
pub record AreSpans (p : Tables) (κ : List Kind) (kept : ℕ → Bool) (spans : List Span) : Type 0 where
  pub classes_ : length spans ≡ length p.classes
  pub each : (c : ℕ) → c < length p.classes → slice_get spans c ≡ Some (span p κ kept c)

abbrev pub first_of : Span → ℕ
first_of s = s.first

-- The numbers as they are.
pub record AreNumbers (p : Tables) (κ : List Kind) (kept : ℕ → Bool) (of_cell : List ℕ) : Type 0 where
  pub cells : length of_cell ≡ length κ
  pub each : (j : ℕ) → j < length κ → slice_get of_cell j ≡ Some (number p κ kept j)
