-- Locations, and the layout that they stand for.
use Rattle.std.specs.Prelude.{ℕ, ◌+◌, ◌≤◌, Bool, List, length, take, Option, Some, None, slice_get}
use Rattle.vg_templates.specs.Spots.{Spot as Place, InFrame, InRegisters}
use Rattle.vg_templates.specs.Layouts.{Layout}
use Rattle.vg_templates.specs.Calls.{sum_of}
use Rattle.vg_alloc.specs.declared.spot.Spot.{Spot}
use Rattle.vg_alloc.specs.declared.spot.Spot.TheVariants.{Frame, Registers}

-- What a procedure keeps where, in numbers: the widths of its locals and a spot for each of them, and of its frame the bytes of the slots, the
-- saved registers, whether Y is the frame pointer, and the bytes of the arguments that are pushed; and of each parameter that arrives in registers, whether
-- it is kept.
pub record Located : Type 0 where
  pub widths : List ℕ
  pub spots : List Spot
  pub slots : ℕ
  pub saved : List ℕ
  pub pointed : Bool
  pub pushed : ℕ
  pub arrives : List Bool

abbrev pub located : (widths : List ℕ) → List Spot → (slots : ℕ) → (saved : List ℕ) → (pointed : Bool) → (pushed : ℕ) → (arrives : List Bool) → Located
located ws spots slots saved pointed pushed arrives =
    record { widths = ws; spots = spots; slots = slots; saved = saved; pointed = pointed; pushed = pushed; arrives = arrives }

-- Parameters that arrive in registers have room there: they are at most four, in at most eight bytes.
abbrev pub CanArrive : (widths : List ℕ) → (arrives : List Bool) → Type 0
CanArrive ws bs = (length bs ≤ 4) × (length bs ≤ length ws) × (sum_of (take (length bs) ws) ≤ 8)

abbrev pub place : Spot → Place
place (Frame at) = InFrame at
place (Registers first) = InRegisters first

-- behind the last local there is none: the first byte of the frame stands for its place
abbrev pub place_in : Option Spot → Place
place_in (Some s) = place s
place_in None = InFrame 0

abbrev pub layout : Located → Layout
layout l =
    record {
      widths = l.widths;
      spots = λ k. place_in (slice_get l.spots k);
      slots = l.slots;
      saved = l.saved;
      pointed = l.pointed;
      pushed = l.pushed;
      arrives = l.arrives;
    }

-- A spot in registers is within those of locals, from r2 to r17.
abbrev pub IsWithin : Spot → (width : ℕ) → Type 0
IsWithin (Frame at) w = Unit {0}
IsWithin (Registers r) w = (2 ≤ r) × (r + w ≤ 18)
