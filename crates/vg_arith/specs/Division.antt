-- The routine of division, for quotient and remainder.
use Rattle.std.specs.Prelude.{ℕ, List, [], ◌∷◌, ◌++◌, None}
use Rattle.vg_lin.specs.declared.instr.Operand.{Operand}
use Rattle.vg_lin.specs.declared.instr.Operand.TheVariants.{Local, Known}
use Rattle.vg_lin.specs.declared.instr.Operator.TheVariants.{Plus, Minus, ShiftRight}
use Rattle.vg_lin.specs.declared.instr.Comparison.TheVariants.{Less, Same}
use Rattle.vg_lin.specs.declared.instr.Test.{Test}
use Rattle.vg_lin.specs.declared.instr.Plain.TheVariants.{Copy, Compute, DivideSteps}
use Rattle.vg_lin.specs.declared.instr.Instr.{Instr}
use Rattle.vg_lin.specs.declared.instr.Instr.TheVariants.{Plain, When, Unless, Return}
use Rattle.vg_lin.specs.Program.{Procedure}

-- The locals are the dividend, the divisor, which result is wanted (0: the quotient; else the remainder), the remainder so far, what is divided,
-- and a byte whose highest bit says whether the result is negative.

abbrev pub is_negative : (width local : ℕ) → Test
is_negative w i = record { comparison = Less; width = w; left = Local i; right = Known 0 }

abbrev pub is_zero : (local : ℕ) → Test
is_zero i = record { comparison = Same; width = 1; left = Local i; right = Known 0 }

-- The number in a local is taken from a zero: it gets the other sign.
abbrev pub negated : (none : Operand) (local : ℕ) → Instr
negated none i = Plain (Compute (record { operator = Minus; width = 4; to = i; left = none; right = Local i }))

-- All steps of the division of what then are magnitudes.
abbrev pub of_steps : Instr
of_steps = Plain (DivideSteps 3 4 (Local 1))

-- The dividend without its sign, beside its highest byte. A result is negative with the dividend. The remainder is a zero as yet.
abbrev pub of_dividend : List Instr
of_dividend =
    Plain (Copy 4 (Local 0)) ∷ Plain (Copy 3 (Known 0))
    ∷ Plain (Compute (record { operator = ShiftRight; width = 4; to = 5; left = Local 4; right = Known 24 }))
    ∷ Unless (is_negative 1 5) 5 ∷ negated (Local 3) 4 ∷ []

-- The divisor without its sign. It turns the sign of the quotient alone.
abbrev pub of_divisor : List Instr
of_divisor =
    Unless (is_negative 4 1) 9 ∷ negated (Local 3) 1 ∷ Unless (is_zero 2) 9
    ∷ Plain (Compute (record { operator = Plus; width = 1; to = 5; left = Local 5; right = Known 0x80 })) ∷ []

-- The result that is wanted, with its sign.
abbrev pub of_result : List Instr
of_result = When (is_zero 2) 12 ∷ Plain (Copy 4 (Local 3)) ∷ Unless (is_negative 1 5) 14 ∷ negated (Known 0) 4 ∷ Return 4 (Local 4) ∷ []

abbrev pub divide : Procedure
divide =
    record {
      method = None;
      params = 3;
      result = 4;
      widths = 4 ∷ 4 ∷ 1 ∷ 4 ∷ 4 ∷ 1 ∷ [];
      code = of_dividend ++ (of_divisor ++ (of_steps ∷ of_result));
    }
