-- The code that brings a value into Z.
use Rattle.std.specs.Prelude.{ℕ, List, [], ◌∷◌, ◌++◌}
use Rattle.avr_instr.specs.declared.instr.Instr.{Instr}
use Rattle.avr_instr.specs.declared.instr.Instr.TheVariants.{Movw}
use Rattle.vg_lin.specs.declared.instr.Operand.{Operand}
use Rattle.vg_lin.specs.declared.instr.Operand.TheVariants.{Local, Known}
use Rattle.vg_templates.specs.Spots.{Spot, InFrame, InRegisters}
use Rattle.vg_templates.specs.Layouts.{Layout, width_of}
use Rattle.vg_templates.specs.Transfers.{known, moves, fetch}

-- The value at a spot of `width` bytes comes from registers at once, and from the frame by X, since Z may be the pointer by which it is reached there.
abbrev pub fetch_z : Spot → (width : ℕ) → List Instr
fetch_z (InFrame at) w = fetch (InFrame at) w 26 2 ++ Movw 30 26 ∷ []
fetch_z (InRegisters r) w = moves r 30 w 2

-- the low bytes of an operand's value
abbrev pub brings_z : Layout → Operand → List Instr
brings_z l (Local k) = fetch_z (l.spots k) (width_of l k)
brings_z l (Known x) = known 26 2 x ++ Movw 30 26 ∷ []
