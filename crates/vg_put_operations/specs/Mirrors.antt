-- Mirrors of private functions. No public clause cites one.
use Rattle.std.specs.Prelude.{ℕ, ◌+◌, ◌-◌, List, [], ◌∷◌, ◌++◌}
use Rattle.avr_instr.specs.declared.instr.Instr.{Instr}
use Rattle.avr_instr.specs.declared.instr.Instr.TheVariants.{Brbs, Eor, Movw, Mul, Rjmp, Sbc, Subi}
use Rattle.vg_lin.specs.declared.instr.Operand.TheVariants.{Local}
use Rattle.vg_templates.specs.Layouts.{Layout}
use Rattle.vg_templates.specs.Held.{brings}
use Rattle.vg_templates.specs.Chains.{adds, ands, subtracts}
use Rattle.vg_templates.specs.Amounts.{tests_amount, bounds_amount}
use Rattle.vg_templates.specs.Products.{four_from, four_times}

-- the product of two registers comes into r22 and r23
abbrev pub product : (left right : ℕ) → List Instr
product a b = Mul a b ∷ Movw 22 0 ∷ Eor 1 1 ∷ []

-- the divisor is taken from the remainder, and added again where it was more
abbrev pub takes_four : List Instr
takes_four = subtracts 22 (four_from 18) ++ Sbc 26 26 ∷ []

abbrev pub gives_four : List Instr
gives_four = ands 18 (four_times 26) ++ adds 22 (four_from 18)

-- an amount comes into r18
abbrev pub brings_amount : Layout → (amount : ℕ) → List Instr
brings_amount l k = brings l (Local k) 18 4 ++ (tests_amount ++ bounds_amount)

-- a turn of the loop of a shift begins and ends
abbrev pub counts_one : (words : ℕ) → List Instr
counts_one n = Subi 18 1 ∷ Brbs 0 (n + 1) ∷ []

abbrev pub turns_again : (words : ℕ) → List Instr
turns_again n = Rjmp (4093 - n) ∷ []
