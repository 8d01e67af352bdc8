-- Where waiting values are. A value that is known, or that is a local's, costs no code while it waits; each other value is in the
-- temporary of its height. A truth value may wait as a test that was not made.
use Rattle.std.specs.Prelude.{ℕ, ◌+◌, Bool, true, false, not, ◌==◌, ◌&&◌, nat_lt, nat_le, List, [], ◌∷◌, length, reverse, take, drop, Option, Some, None, if◌then◌else◌}
use Rattle.vg_lin.specs.declared.instr.Operand.{Operand}
use Rattle.vg_lin.specs.declared.instr.Operand.TheVariants.{Local, Known}
use Rattle.vg_flatten_shapes.specs.declared.open.Truth.{Truth}
use Rattle.vg_flatten_shapes.specs.declared.room.Room.{Room}

-- The homes of the values that wait, the newest first; the newest of all may be a test.
pub record Shape : Type 0 where
  pub truth : Option Truth
  pub homes : List Operand

abbrev pub only : List Operand → Shape
only hs = record { truth = None; homes = hs }

abbrev pub empty : Shape
empty = only []

abbrev pub is_none : Option Truth → Bool
is_none None = true
is_none (Some t) = false

abbrev pub is_empty : Shape → Bool
is_empty s = is_none s.truth && (length s.homes == 0)

-- ---- the same homes

abbrev pub same_operand : Operand → Operand → Bool
same_operand (Local i) (Local j) = i == j
same_operand (Known v) (Known w) = v == w
same_operand _ _ = false

abbrev pub same_homes : List Operand → List Operand → Bool
same_homes [] bs = length bs == 0
same_homes (a ∷ as') [] = false
same_homes (a ∷ as') (b ∷ bs) = same_operand a b && same_homes as' bs

-- None of the values that wait is this local's.
abbrev pub is_free : ℕ → List Operand → Bool
is_free i [] = true
is_free i (h ∷ hs) = not (same_operand (Local i) h) && is_free i hs

-- ---- arguments

-- So many of the newest homes, the oldest of them first, and what waits below them.
pub record Taken : Type 0 where
  pub args : List Operand
  pub rest : List Operand

abbrev pub taken : (count : ℕ) → List Operand → Option Taken
taken count hs = if nat_le count (length hs) then Some (record { args = reverse (take count hs); rest = drop count hs }) else None

-- ---- locals

-- The temporary for a value above these.
abbrev pub temp : Room → List Operand → Option ℕ
temp r hs = if nat_lt (length hs) r.temps then Some (r.locals + length hs) else None
