-- The numbers of a program's live cells as data: they are those by counting.
use Rattle.std.specs.Prelude.{◌≡◌, ℕ, ◌<◌, ◌≤◌, Bool, List, length, map, is_some, Option, Some, slice_get}
use Rattle.vg_core.specs.declared.heap.Heap.{Heap}
use Rattle.vg_core.specs.declared.program.Tables.{Tables}
use Rattle.vg_core.specs.Heap.{Kind, ObjectOf, ArrayOf, kind_of}
use Rattle.vg_live.specs.declared.live_set.LiveSet.{LiveSet}
use Rattle.vg_live.specs.declared.live_set.Reason.{Reason}
use Rattle.vg_live.specs.Sets.{flat}
use Rattle.vg_numbers.specs.Numbers.{number, first, count}
use Rattle.vg_number.specs.declared.numbers.Span.{Span}
use Rattle.vg_number.specs.declared.numbers.Numbers.{Numbers}

-- The member of this number has a reason to be live.
abbrev pub has_reason : List (Option Reason) → ℕ → Bool
has_reason reasons n = is_some (flat (slice_get reasons n))

-- A cell is kept where it is live.
abbrev pub kept_in : LiveSet → ℕ → Bool
kept_in s = has_reason s.cells

-- The kinds of the cells of a heap.
abbrev pub kinds_of : Heap → List Kind
kinds_of h = map kind_of h.cells

-- The class of an object and the type of an array's elements are in the tables.
abbrev pub IsListed : Tables → Kind → Type 0
IsListed p (ObjectOf c) = c < length p.classes
IsListed p (ArrayOf t size) = t < length p.types

abbrev pub AreListed : Tables → List Kind → Type 0
AreListed p κ = (j : ℕ) (a : Kind) → slice_get κ j ≡ Some a → IsListed p a

-- There are so few cells that each number has two bytes.
abbrev pub AreFew : List Kind → Type 0
AreFew κ = length κ ≤ 60000

-- The interval of a class: the first number of its objects with those below it, and how many there are.
abbrev pub span : Tables → List Kind → (kept : ℕ → Bool) → (c : ℕ) → Span
span p κ kept c = record { first = first p κ kept c; count = count p κ kept c }

-- Each cell has its number, and each class its interval.
pub record IsNumbering (p : Tables) (κ : List Kind) (kept : ℕ → Bool) (n : Numbers) : Type 0 where
  pub cells : length n.of_cell ≡ length κ
  pub classes : length n.spans ≡ length p.classes
  pub numbers : (j : ℕ) → j < length κ → slice_get n.of_cell j ≡ Some (number p κ kept j)
  pub spans : (c : ℕ) → c < length p.classes → slice_get n.spans c ≡ Some (span p κ kept c)
