-- A procedure with arithmetic, what stands for it by hand, and its runs by computation.
use Rattle.std.specs.Prelude.{◌≡◌, refl, ℕ, List, [], ◌∷◌, Some, None}
use Rattle.vg_meaning.specs.declared.event.Event.TheVariants.{Write}
use Rattle.vg_meaning.specs.History.{Calling as OpenCall}
use Rattle.vg_meaning.specs.Answer.{Done}
use Rattle.vg_lin.specs.declared.instr.Operand.{Operand}
use Rattle.vg_lin.specs.declared.instr.Operand.TheVariants.{Local, Known}
use Rattle.vg_lin.specs.declared.instr.Operator.TheVariants.{Plus, Minus, Times, Divide, Remainder, ShiftLeft, ShiftRight}
use Rattle.vg_lin.specs.declared.instr.Comparison.TheVariants.{Same}
use Rattle.vg_lin.specs.declared.instr.Test.{Test}
use Rattle.vg_lin.specs.declared.instr.Plain.TheVariants.{Copy, Compute, Product, WriteDevice}
use Rattle.vg_lin.specs.declared.instr.Callee.TheVariants.{Procedure as ByNumber}
use Rattle.vg_lin.specs.declared.instr.Passed.{Passed}
use Rattle.vg_lin.specs.declared.instr.Registers.{Registers}
use Rattle.vg_lin.specs.declared.instr.Registers.TheVariants.{Empty, Two, Three}
use Rattle.vg_lin.specs.declared.instr.Instr.{Instr}
use Rattle.vg_lin.specs.declared.instr.Instr.TheVariants.{Plain, When, Jump, Call, Return, Idle}
use Rattle.vg_lin.specs.Program.{Procedure, Program}
use Rattle.vg_lin.specs.State.{division_steps}
use Rattle.vg_lin.specs.Meaning.{run}
use Rattle.vg_arith.specs.Product.{mul}
use Rattle.vg_arith.specs.Division.{divide}
use Rattle.vg_arith.specs.Shifts.{shl, shr}
use Rattle.vg_expand.specs.Code.{computing, expanded}
use Rattle.vg_lin_rows.specs.Shown.{Shown, seen}
use Rattle.vg_lin_rows.specs.Packed.{codes}

abbrev pub ends_here : Test
ends_here = record { comparison = Same; width = 1; left = Local 3; right = Known 0 }

-- The least int by -1, and what is left; a shift by a known amount, one by a narrow amount that is not known, and a narrow product. The
-- branch leads over what becomes longer.
abbrev pub main : Procedure
main =
    record {
      method = Some 0;
      params = 0;
      result = 0;
      widths = 4 ∷ 4 ∷ 4 ∷ 1 ∷ [];
      code =
          Plain (Copy 0 (Known 0x80000000))
          ∷ Plain (Compute (record { operator = Divide; width = 4; to = 1; left = Local 0; right = Known 0xFFFFFFFF }))
          ∷ Plain (Compute (record { operator = Remainder; width = 4; to = 2; left = Local 0; right = Known 0xFFFFFFFF }))
          ∷ Plain (Compute (record { operator = ShiftRight; width = 4; to = 3; left = Local 1; right = Known 24 }))
          ∷ Plain (WriteDevice 0x38 (Local 3)) ∷ Plain (WriteDevice 0x38 (Local 2)) ∷ When ends_here 9
          ∷ Plain (Compute (record { operator = Times; width = 2; to = 1; left = Local 3; right = Known 0x0207 }))
          ∷ Plain (Compute (record { operator = ShiftLeft; width = 1; to = 3; left = Known 3; right = Local 2 })) ∷ Plain (WriteDevice 0x38 (Local 1))
          ∷ Plain (WriteDevice 0x38 (Local 3)) ∷ Return 0 (Known 0) ∷ [];
    }

abbrev pub routine_call : (routine : ℕ) → Registers → (to : ℕ) → Instr
routine_call q rs to = Call (record { callee = ByNumber q; pushed = 0; registers = rs; to = Some (record { width = 4; local = to }) })

-- Arguments of four bytes, and those of a division, of which the last chooses the result.
abbrev pub four : Operand → Passed
four a = record { width = 4; value = a }

abbrev pub dividing : (wanted : Operand) → Registers
dividing wanted = Three (four (Local 0)) (four (Known 0xFFFFFFFF)) (record { width = 1; value = wanted })

abbrev pub cut : (width to : ℕ) → Instr
cut w to = Plain (Compute (record { operator = Plus; width = w; to = to; left = Local to; right = Known 0 }))

-- Two calls of the routine of division; the shift by a known amount stays, and the branch leads two places further.
stands : (expanded 2 main).code
    ≡ Plain (Copy 0 (Known 0x80000000)) ∷ routine_call 3 (dividing (Known 0)) 1
    ∷ routine_call 3 (dividing (Known 1)) 2
    ∷ Plain (Compute (record { operator = ShiftRight; width = 4; to = 3; left = Local 1; right = Known 24 })) ∷ Plain (WriteDevice 0x38 (Local 3))
    ∷ Plain (WriteDevice 0x38 (Local 2)) ∷ When ends_here 11 ∷ routine_call 2 (Two (four (Local 3)) (four (Known 0x0207))) 1 ∷ cut 2 1
    ∷ routine_call 4 (Two (four (Known 3)) (four (Local 2))) 3 ∷ cut 1 3 ∷ Plain (WriteDevice 0x38 (Local 1)) ∷ Plain (WriteDevice 0x38 (Local 3))
    ∷ Return 0 (Known 0) ∷ []
stands = refl

abbrev pub start : Procedure
start =
    record {
      method = None;
      params = 0;
      result = 0;
      widths = [];
      code = Call (record { callee = ByNumber 0; pushed = 0; registers = Empty; to = None }) ∷ Idle ∷ Jump 1 ∷ [];
    }

abbrev pub program : List Procedure → Program
program ms =
    record {
      procedures = ms;
      dispatches = [];
      codes = codes;
      tables = [];
      ram = [];
      handler = λ v. None;
      start = 1;
    }

-- The quotient is the least int, whose high byte is 0x80, and nothing is left; 0x80 times 0x0207 is 0x10380, of which two bytes are 0x0380.
abbrev pub shows : Shown
shows =
    record {
      trace = Write 0x38 0x80 ∷ Write 0x38 0 ∷ Write 0x38 0x80 ∷ Write 0x38 3 ∷ [];
      openings = (OpenCall 0 ∷ []) ∷ [];
      ending = Some Done;
    }

before_run : seen (run (program (main ∷ start ∷ [])) 20 [] []) ≡ shows
before_run = refl

-- With the calls of routines it takes more steps, and shows the same.
expanded_run : seen (run (program (expanded 2 main ∷ expanded 2 start ∷ mul ∷ divide ∷ shl ∷ shr ∷ [])) 300 [] []) ≡ shows
unfolding division_steps
expanded_run = refl

-- ---- products

-- What stands for the product of an operand with another one: locals 0 and 1 have four bytes, locals 2 and 3 one, and the result goes to
-- local 1.
abbrev pub product_code : (width : ℕ) → Operand → Operand → List Instr
product_code w a b =
    computing (record { first = 2; widths = 4 ∷ 4 ∷ 1 ∷ 1 ∷ [] }) (record { operator = Times; width = w; to = 1; left = a; right = b }) Times

abbrev pub shift_into : (from bits : ℕ) → Instr
shift_into i n = Plain (Compute (record { operator = ShiftLeft; width = 4; to = 1; left = Local i; right = Known n }))

by_none : product_code 4 (Local 0) (Known 0) ≡ Plain (Copy 1 (Known 0)) ∷ []
by_none = refl

by_one : product_code 4 (Local 0) (Known 1) ≡ shift_into 0 0 ∷ []
by_one = refl

by_eight : product_code 4 (Local 0) (Known 8) ≡ shift_into 0 3 ∷ []
by_eight = refl

-- also where the number is the left operand, and where the result overwrites the other
eight_by : product_code 4 (Known 8) (Local 1) ≡ shift_into 1 3 ∷ []
eight_by = refl

by_greatest : product_code 4 (Local 0) (Known 0x80000000) ≡ shift_into 0 31 ∷ []
by_greatest = refl

-- next to a power of 2
by_five : product_code 4 (Local 0) (Known 5)
    ≡ shift_into 0 2 ∷ Plain (Compute (record { operator = Plus; width = 4; to = 1; left = Local 1; right = Local 0 })) ∷ []
by_five = refl

by_seven : product_code 4 (Local 0) (Known 7)
    ≡ shift_into 0 3 ∷ Plain (Compute (record { operator = Minus; width = 4; to = 1; left = Local 1; right = Local 0 })) ∷ []
by_seven = refl

-- the local of the result is the operand, so that a shift would lose it
five_times_itself : product_code 4 (Local 1) (Known 5) ≡ routine_call 2 (Two (four (Local 1)) (four (Known 5))) 1 ∷ []
five_times_itself = refl

by_ten : product_code 4 (Local 0) (Known 10) ≡ routine_call 2 (Two (four (Local 0)) (four (Known 10))) 1 ∷ []
by_ten = refl

-- two bytes
of_bytes : product_code 4 (Local 2) (Local 3) ≡ Plain (Product 1 (Local 2) (Local 3)) ∷ []
of_bytes = refl

of_byte_and_known : product_code 1 (Local 2) (Known 10) ≡ Plain (Product 1 (Local 2) (Known 10)) ∷ cut 1 1 ∷ []
of_byte_and_known = refl

of_byte_and_more : product_code 4 (Local 2) (Local 0) ≡ routine_call 2 (Two (four (Local 2)) (four (Local 0))) 1 ∷ []
of_byte_and_more = refl

-- of two known numbers it is worked out, and cut to its width
of_known : product_code 4 (Known 60) (Known 60) ≡ Plain (Copy 1 (Known 3600)) ∷ []
of_known = refl

of_known_narrow : product_code 1 (Known 60) (Known 60) ≡ Plain (Copy 1 (Known 16)) ∷ []
of_known_narrow = refl

of_known_wide : product_code 4 (Known 0x80000001) (Known 3) ≡ Plain (Copy 1 (Known 0x80000003)) ∷ []
of_known_wide = refl
