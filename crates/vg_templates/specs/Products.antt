-- The code for the product of two bytes, and for the steps of a division.
use Rattle.std.specs.Prelude.{ℕ, ◌+◌, ◌-◌, List, [], ◌∷◌, ◌++◌, length}
use Rattle.avr_instr.specs.declared.instr.Instr.{Instr}
use Rattle.avr_instr.specs.declared.instr.Instr.TheVariants.{Adc, Add, Brbs, Cpi, Dec, Eor, Ldi, Lsr, Mov, Movw, Mul, Rjmp, Sbc}
use Rattle.vg_lin.specs.declared.instr.Operand.{Operand}
use Rattle.vg_lin.specs.declared.instr.Operand.TheVariants.{Local}
use Rattle.vg_templates.specs.Layouts.{Layout}
use Rattle.vg_templates.specs.Held.{brings, gives}
use Rattle.vg_templates.specs.Chains.{adds, ands, subtracts}
use Rattle.vg_templates.specs.Operands.{finds, found_in}
use Rattle.vg_templates.specs.Plain.{first_of}
use Rattle.vg_templates.specs.Shifts.{doubles_on}

-- MUL leaves the product in r0 and r1, and r1 is a zero again behind it
abbrev pub multiplies : Layout → (to : ℕ) → (left right : Operand) → List Instr
multiplies l to a b =
    finds l a 18 1
    ++ (finds l b 22 1
    ++ (Mul (first_of (found_in l a 18 1)) (first_of (found_in l b 22 1)) ∷ Movw 22 0 ∷ Eor 1 1 ∷ gives l to 22 2))

-- four registers from one on, and one of them four times
abbrev pub four_from : (d : ℕ) → List ℕ
four_from d = d ∷ (d + 1) ∷ (d + 2) ∷ (d + 3) ∷ []

abbrev pub four_times : (d : ℕ) → List ℕ
four_times d = d ∷ d ∷ d ∷ d ∷ []

-- the highest bit of the dividend comes into r26
abbrev pub brings_bit : Layout → (dividend : ℕ) → List Instr
brings_bit l dividend = brings l (Local dividend) 22 4 ++ Add 25 25 ∷ Mov 26 1 ∷ Adc 26 26 ∷ []

-- the remainder is shifted left by one bit, with this one behind it
abbrev pub shifts_remainder : Layout → (remainder : ℕ) → List Instr
shifts_remainder l remainder = brings l (Local remainder) 22 4 ++ Lsr 26 ∷ doubles_on 22 4

-- the divisor is taken from it, and added again where it was more; r26 holds 0xFF then, and 0 else
abbrev pub takes_divisor : Layout → (divisor : Operand) → List Instr
takes_divisor l divisor =
    brings l divisor 18 4
    ++ (subtracts 22 (four_from 18) ++ (Sbc 26 26 ∷ ands 18 (four_times 26) ++ adds 22 (four_from 18)))

-- the dividend is shifted left by one bit, with 1 behind it where the divisor was taken
abbrev pub shifts_dividend : Layout → (dividend : ℕ) → List Instr
shifts_dividend l dividend = brings l (Local dividend) 22 4 ++ Cpi 26 0xFF ∷ doubles_on 22 4

abbrev pub divides_once : Layout → (remainder dividend : ℕ) → (divisor : Operand) → List Instr
divides_once l remainder dividend divisor =
    brings_bit l dividend
    ++ (shifts_remainder l remainder
    ++ (takes_divisor l divisor ++ (gives l remainder 22 4 ++ (shifts_dividend l dividend ++ gives l dividend 22 4))))

-- The way back over so many words to the first of a turn, while r27 has not come to 0; the last turn steps over it.
abbrev pub turns_back : (words : ℕ) → List Instr
turns_back n = Dec 27 ∷ Brbs 1 1 ∷ Rjmp (4093 - n) ∷ []

-- r27 counts the steps, each of which is one turn; each instruction of a turn is one word, and the values come and go by scratch registers
abbrev pub divides_through : Layout → (remainder dividend : ℕ) → (divisor : Operand) → List Instr
divides_through l remainder dividend divisor =
    Ldi 27 32 ∷ (divides_once l remainder dividend divisor ++ turns_back (length (divides_once l remainder dividend divisor)))
