-- What numbers, locals and devices become, from where values wait.
use Rattle.std.specs.Prelude.{ℕ, ◌+◌, ◌^◌, ◌==◌, ◌&&◌, nat_lt, List, [], ◌∷◌, reverse, if◌then◌else◌}
use Rattle.vg_lin.specs.declared.instr.Operand.{Operand}
use Rattle.vg_lin.specs.declared.instr.Operand.TheVariants.{Local as InLocal, Known}
use Rattle.vg_lin.specs.declared.instr.Plain.TheVariants.{Copy, ReadDevice as ReadsDevice, WriteDevice as WritesDevice}
use Rattle.vg_flatten_shapes.specs.declared.fault.Fault.TheVariants.{NotTaken}
use Rattle.vg_flatten_shapes.specs.declared.room.Room.{Room}
use Rattle.vg_flatten_shapes.specs.Shapes.{only, is_free, temp}
use Rattle.vg_flatten_shapes.specs.Blocks.{Skip, One}
use Rattle.vg_flatten_shapes.specs.Made.{Made, Gives, Refused, by_temp}

abbrev pub put_number : ℕ → List Operand → Made
put_number v hs = if nat_lt v (2 ^ 32) then Gives Skip (only (Known v ∷ hs)) else Refused NotTaken

-- A local of linear code by its number; where there is none no legal program comes.
abbrev pub at_local : Room → ℕ → List Operand → Made
at_local r j hs = if nat_lt j r.locals then Gives Skip (only (InLocal j ∷ hs)) else Refused NotTaken

abbrev pub get_local : Room → ℕ → List Operand → Made
get_local r i hs = at_local r (r.receiver + i) hs

-- The receiver is the first local, where there is one.
abbrev pub get_receiver : Room → List Operand → Made
get_receiver r hs = if r.receiver == 0 then Gives Skip (only (Known 0 ∷ hs)) else at_local r 0 hs

abbrev pub put_in_local : Room → ℕ → Operand → List Operand → Made
put_in_local r j h hs = if nat_lt j r.locals && is_free j (reverse hs) then Gives (One (Copy j h)) (only hs) else Refused NotTaken

abbrev pub set_local : Room → ℕ → List Operand → Made
set_local r i (h ∷ hs) = put_in_local r (r.receiver + i) h hs
set_local r i [] = Refused NotTaken

abbrev pub forgotten : List Operand → Made
forgotten (h ∷ hs) = Gives Skip (only hs)
forgotten [] = Refused NotTaken

abbrev pub read : Room → ℕ → List Operand → Made
read r address hs = by_temp (temp r hs) (λ to. Gives (One (ReadsDevice to address)) (only (InLocal to ∷ hs)))

abbrev pub written : ℕ → List Operand → Made
written address (h ∷ hs) = Gives (One (WritesDevice address h)) (only hs)
written address [] = Refused NotTaken
