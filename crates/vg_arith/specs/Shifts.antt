-- The routines of the shifts by an amount that is not known.
use Rattle.std.specs.Prelude.{List, [], ◌∷◌, None}
use Rattle.vg_lin.specs.declared.instr.Operand.TheVariants.{Local}
use Rattle.vg_lin.specs.declared.instr.Operator.{Operator}
use Rattle.vg_lin.specs.declared.instr.Operator.TheVariants.{And, ShiftLeft, ShiftRight}
use Rattle.vg_lin.specs.declared.instr.Plain.TheVariants.{Compute}
use Rattle.vg_lin.specs.declared.instr.Instr.{Instr}
use Rattle.vg_lin.specs.declared.instr.Instr.TheVariants.{Plain, Return}
use Rattle.vg_lin.specs.Program.{Procedure}

-- The value is the first local, and the amount the second.
abbrev pub shifts_value : Operator → Instr
shifts_value op = Plain (Compute (record { operator = op; width = 4; to = 0; left = Local 0; right = Local 1 }))

abbrev pub shifts_back : Operator → List Instr
shifts_back op = shifts_value op ∷ Return 4 (Local 0) ∷ []

-- What is shifted to the left leaves the low bytes of the result to those of the value.
abbrev pub shl : Procedure
shl = record { method = None; params = 2; result = 4; widths = 4 ∷ 4 ∷ []; code = shifts_back ShiftLeft }

-- The third argument has the bits of the value that the shift to the right sees.
abbrev pub shr : Procedure
shr =
    record {
      method = None;
      params = 3;
      result = 4;
      widths = 4 ∷ 4 ∷ 4 ∷ [];
      code = Plain (Compute (record { operator = And; width = 4; to = 0; left = Local 0; right = Local 2 })) ∷ shifts_back ShiftRight;
    }
