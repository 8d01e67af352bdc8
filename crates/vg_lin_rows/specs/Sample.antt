-- A procedure of two parameters whose arithmetic needs routines, and one of whose products does not.
use Rattle.std.specs.Prelude.{[], ◌∷◌, None}
use Rattle.vg_lin.specs.declared.instr.Operand.TheVariants.{Local, Known}
use Rattle.vg_lin.specs.declared.instr.Operator.TheVariants.{Times, Divide, ShiftRight}
use Rattle.vg_lin.specs.declared.instr.Comparison.TheVariants.{Same}
use Rattle.vg_lin.specs.declared.instr.Plain.TheVariants.{Compute}
use Rattle.vg_lin.specs.declared.instr.Instr.TheVariants.{Plain, When, Return}
use Rattle.vg_lin.specs.Program.{Procedure}

abbrev pub sample : Procedure
sample =
    record {
      method = None;
      params = 2;
      result = 4;
      widths = 4 ∷ 4 ∷ 2 ∷ [];
      code =
          When (record { comparison = Same; width = 4; left = Local 1; right = Known 0 }) 5
          ∷ Plain (Compute (record { operator = Divide; width = 4; to = 0; left = Local 0; right = Local 1 }))
          ∷ Plain (Compute (record { operator = Times; width = 2; to = 2; left = Local 0; right = Local 1 }))
          ∷ Plain (Compute (record { operator = Times; width = 4; to = 1; left = Local 0; right = Known 9 }))
          ∷ Plain (Compute (record { operator = ShiftRight; width = 4; to = 0; left = Local 1; right = Local 0 })) ∷ Return 4 (Local 0) ∷ [];
    }
