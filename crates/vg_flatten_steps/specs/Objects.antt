-- What tests and casts of objects become, from where values wait.
use Rattle.std.specs.Prelude.{ℕ, ◌+◌, ◌^◌, nat_lt, List, [], ◌∷◌, Some, if◌then◌else◌}
use Rattle.vg_lin.specs.declared.instr.Operand.{Operand}
use Rattle.vg_lin.specs.declared.instr.Operand.TheVariants.{Local as InLocal, Known}
use Rattle.vg_lin.specs.declared.instr.Comparison.TheVariants.{Below}
use Rattle.vg_lin.specs.declared.instr.Test.{Test}
use Rattle.vg_flatten_shapes.specs.declared.fault.Fault.TheVariants.{NotTaken}
use Rattle.vg_flatten_shapes.specs.declared.room.Room.{Room}
use Rattle.vg_flatten_shapes.specs.declared.open.Truth.TheVariants.{Holds, Fails}
use Rattle.vg_flatten_shapes.specs.Shapes.{only, temp}
use Rattle.vg_flatten_shapes.specs.Blocks.{Skip, One, Both, Choice, stop_where}
use Rattle.vg_flatten_shapes.specs.Made.{Made, Gives, Refused, by_temp, is_zero}
use Rattle.vg_flatten_values.specs.Values.{test_of}
use Rattle.vg_flatten_places.specs.Places.{distance}

-- ---- objects

-- An object is one of so many where its number is less than their count behind the first.
abbrev pub is_near : (to count : ℕ) → Test
is_near to count = test_of Below (InLocal to) (Known count)

abbrev pub is_one_of : Room → (first count : ℕ) → List Operand → Made
is_one_of r first count (h ∷ hs) =
    if nat_lt (first + count) (2 ^ 32)
    then by_temp (temp r hs) (λ to. Gives (One (distance to first h)) (record { truth = Some (Holds (is_near to count)); homes = hs }))
    else Refused NotTaken
is_one_of r first count [] = Refused NotTaken

-- A cast: the number stays where it is, and the run stops unless it is 0 or one of so many.
abbrev pub cast_to : Room → (first count : ℕ) → List Operand → Made
cast_to r first count (h ∷ hs) =
    if nat_lt (first + count) (2 ^ 32)
    then by_temp (temp r (h ∷ hs)) (λ to. Gives (Choice (Fails (is_zero h)) (Both (One (distance to first h)) (stop_where 4 (Fails (is_near to count)))) Skip)
    (only (h ∷ hs)))
    else Refused NotTaken
cast_to r first count [] = Refused NotTaken
