-- How functions of choices answer: mirrors of the definitions, by cases.
use Rattle.std.specs.Prelude.{◌≡◌, ℕ, ◌+◌, ◌<◌, length, true, false, reverse, Result, Ok, Err, Option, Some, None}
use Rattle.vg_base.specs.declared.refusal.Refusal.{Refusal}
use Rattle.vg_base.specs.declared.refusal.Refusal.TheVariants.{Fault as Faulty, NoMemory as Memory}
use Rattle.vg_flatten_shapes.specs.declared.fault.Fault.{Fault}
use Rattle.vg_flatten_shapes.specs.declared.fault.Fault.TheVariants.{NotTaken, TooHigh, TooLong}
use Rattle.vg_flatten_shapes.specs.declared.piece.Piece.{Piece}
use Rattle.vg_flatten_shapes.specs.Blocks.{choice_code}
use Rattle.vg_flatten_shapes.specs.declared.open.Truth.{Truth}
use Rattle.vg_flatten_shapes.specs.Shapes.{Shape, same_homes}
use Rattle.vg_flatten_shapes.specs.Made.{Tested}

-- The truth value that was taken, and what is left.
abbrev pub Tests : Option Truth → Option Tested → Shape → Type 0
Tests (Some t) found left = (found ≡ Some (record { truth = t; homes = left.homes })) × (left.truth ≡ None)
Tests None found left = found ≡ None

-- Both ways of a choice were joined, or left the values in other homes.
abbrev pub Joins : Result Piece (Refusal Fault) → Truth → (at : ℕ) → (first rest : Piece) → Type 0
Joins (Ok p) t at first rest =
    (same_homes (reverse first.homes.homes) (reverse rest.homes.homes) ≡ true) × (p.code ≡ choice_code t at first.code rest.code) × (p.homes ≡ first.homes)
Joins (Err Memory) t at first rest = Unit {0}
Joins (Err (Faulty TooLong)) t at first rest = 65535 < at + 2 + length first.code + length rest.code
Joins (Err (Faulty TooHigh)) t at first rest = ⊥
Joins (Err (Faulty NotTaken)) t at first rest = same_homes (reverse first.homes.homes) (reverse rest.homes.homes) ≡ false
