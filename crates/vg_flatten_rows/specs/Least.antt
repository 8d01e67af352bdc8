-- A body with two divisions, flattened and expanded. The code was worked by hand.
use Rattle.std.specs.Prelude.{◌≡◌, refl, ℕ, suc, Bool, true, false, ◌==◌, if◌then◌else◌, List, [], ◌∷◌, Some}
use Rattle.vg_meaning.specs.Code.{Nothing}
use Rattle.vg_firm.specs.declared.step.Operator.TheVariants.{Divide, Remainder, ShiftRight}
use Rattle.vg_firm.specs.declared.step.Prefix.TheVariants.{Negative, Cut}
use Rattle.vg_firm.specs.declared.step.Step.{Step}
use Rattle.vg_firm.specs.declared.step.Step.TheVariants.{Number, Local as Get, SetLocal, Operate, Apply, WriteDevice}
use Rattle.vg_firm.specs.Program.{Procedure}
use Rattle.vg_lin.specs.declared.instr.Operand.TheVariants.{Local, Known}
use Rattle.vg_lin.specs.declared.instr.Operator.TheVariants.{Plus as Sum, Minus as Difference, Divide as Quotient, Remainder as Rest, ShiftRight as RightShift}
use Rattle.vg_lin.specs.declared.instr.Plain.TheVariants.{Copy, WriteDevice as Writes, Stop}
use Rattle.vg_lin.specs.declared.instr.Callee.{Callee}
use Rattle.vg_lin.specs.declared.instr.Callee.TheVariants.{Procedure as ByNumber}
use Rattle.vg_lin.specs.declared.instr.Registers.{Registers}
use Rattle.vg_lin.specs.declared.instr.Registers.TheVariants.{Three}
use Rattle.vg_lin.specs.declared.instr.Instr.{Instr}
use Rattle.vg_lin.specs.declared.instr.Instr.TheVariants.{Plain, Unless, Call, Return}
use Rattle.vg_lin.specs.Program.{Procedure as LinProcedure}
use Rattle.vg_arith.specs.Simple.{are_simple}
use Rattle.vg_expand.specs.Code.{expanded}
use Rattle.vg_flatten_rows.specs.Bodies.{steps, procedure, flattened, four, four_to, computes, is_zero}

-- M.PORTB = ((-2147483648 / -1) :: raw.32 >> 24) :: raw.8; local z: int = 0; z = 5 % z;
-- Each minus is an operator before its number. The first cast keeps all bits, so no step stands for it.
abbrev pub body : List Step
body =
    Number 2147483648 ∷ Apply Negative ∷ Number 1 ∷ Apply Negative ∷ Operate Divide ∷ Number 24 ∷ Operate (ShiftRight 32) ∷ Apply (Cut 8)
    ∷ WriteDevice 0x38 ∷ Number 0 ∷ SetLocal 0 ∷ Number 5 ∷ Get 0 ∷ Operate Remainder ∷ SetLocal 0 ∷ []

abbrev pub main : Procedure
main = procedure 0 (4 ∷ []) (steps body Nothing)

abbrev pub checked : (divisor at : ℕ) → Instr
checked divisor at = Unless (is_zero (Local divisor)) at

-- Both divisions stand behind the test of their divisors.
abbrev pub linear : List Instr
linear =
    Plain (Copy 0 (Known 0)) ∷ computes Difference 4 1 (Known 0) (Known 2147483648) ∷ computes Difference 4 2 (Known 0) (Known 1)
    ∷ checked 2 5 ∷ Plain (Stop 3) ∷ computes Quotient 4 1 (Local 1) (Local 2) ∷ computes RightShift 4 1 (Local 1) (Known 24)
    ∷ computes Sum 1 1 (Local 1) (Known 0) ∷ Plain (Writes 0x38 (Local 1)) ∷ Plain (Copy 0 (Known 0)) ∷ checked 0 12 ∷ Plain (Stop 3)
    ∷ computes Rest 4 1 (Known 5) (Local 0) ∷ Plain (Copy 0 (Local 1)) ∷ Return 4 (Known 0) ∷ []

flattened_main : flattened 4 main ≡ Some linear
flattened_main = refl

-- ---- with the routines from the procedure 7 on, so that division is the procedure 8

abbrev pub linear_main : LinProcedure
linear_main = record { method = Some 0; params = 0; result = 4; widths = 4 ∷ 4 ∷ 4 ∷ 4 ∷ 4 ∷ []; code = linear }

abbrev pub divides : Registers → Instr
divides args = Call (record { callee = ByNumber 8; pushed = 0; registers = args; to = four_to 1 })

-- Both divisions are calls of one routine, whose last argument chooses quotient or remainder. The shift by a known amount stays.
expanded_main : (expanded 7 linear_main).code
    ≡ Plain (Copy 0 (Known 0)) ∷ computes Difference 4 1 (Known 0) (Known 2147483648) ∷ computes Difference 4 2 (Known 0) (Known 1)
    ∷ checked 2 5 ∷ Plain (Stop 3) ∷ divides (Three (four (Local 1)) (four (Local 2)) (record { width = 1; value = Known 0 })) ∷ computes RightShift 4 1 (Local 1) (Known 24)
    ∷ computes Sum 1 1 (Local 1) (Known 0) ∷ Plain (Writes 0x38 (Local 1)) ∷ Plain (Copy 0 (Known 0)) ∷ checked 0 12 ∷ Plain (Stop 3)
    ∷ divides (Three (four (Known 5)) (four (Local 0)) (record { width = 1; value = Known 1 })) ∷ Plain (Copy 0 (Local 1)) ∷ Return 4 (Known 0) ∷ []
expanded_main = refl

-- No product, no division, no remainder and no shift by an amount that is not known is left.
nothing_left : are_simple (expanded 7 linear_main).code ≡ true
nothing_left = refl

abbrev pub is_of : (q : ℕ) → Callee → Bool
is_of q (ByNumber p) = p == q
is_of q _ = false

-- How many calls of a procedure there are.
abbrev pub calls_to : (q : ℕ) → List Instr → ℕ
calls_to q [] = 0
calls_to q (Call c ∷ is) = if is_of q c.callee then suc (calls_to q is) else calls_to q is
calls_to q (i ∷ is) = calls_to q is

two_calls : calls_to 8 (expanded 7 linear_main).code ≡ 2
two_calls = refl
