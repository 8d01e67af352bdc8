-- The code for shifts by amounts that are not known: a loop shifts the value by one bit in each turn, and counts the amount down.
use Rattle.std.specs.Prelude.{ℕ, ◌+◌, ◌-◌, List, [], ◌∷◌, ◌++◌}
use Rattle.avr_instr.specs.declared.instr.Instr.{Instr}
use Rattle.avr_instr.specs.declared.instr.Instr.TheVariants.{Brbs, Ldi, Or, Rjmp, Subi}
use Rattle.vg_lin.specs.declared.instr.Operand.{Operand}
use Rattle.vg_lin.specs.declared.instr.Operand.TheVariants.{Local}
use Rattle.vg_templates.specs.Layouts.{Layout, width_of}
use Rattle.vg_templates.specs.Held.{brings, gives}
use Rattle.vg_templates.specs.Operands.{least}
use Rattle.vg_templates.specs.Shifts.{doubles, halves}

-- The four bytes of an amount are in r18 to r21: Z says whether it has no byte but the first; where it has, 255 stands for it, since that many bits
-- leave nothing of a value either.
abbrev pub tests_amount : List Instr
tests_amount = Or 19 20 ∷ Or 19 21 ∷ []

abbrev pub bounds_amount : List Instr
bounds_amount = Brbs 1 1 ∷ Ldi 18 255 ∷ []

-- Code of so many words, each of them an instruction, as often as r18 says: it is left where a count below 0 borrows.
abbrev pub counts_down : (words : ℕ) → List Instr → List Instr
counts_down n is = Subi 18 1 ∷ Brbs 0 (n + 1) ∷ is ++ Rjmp (4093 - n) ∷ []

-- the low bytes of a value, shifted left by as many bits as a local says, go to a local
abbrev pub shifts_left_by : Layout → (width to : ℕ) → Operand → (amount : ℕ) → List Instr
shifts_left_by l w to a k =
    let m = least w (width_of l to) in
    brings l a 22 m
    ++ (brings l (Local k) 18 4 ++ (tests_amount ++ (bounds_amount ++ (counts_down m (doubles 22 m) ++ gives l to 22 m))))

-- the same to the right
abbrev pub shifts_right_by : Layout → (width to : ℕ) → Operand → (amount : ℕ) → List Instr
shifts_right_by l w to a k =
    brings l a 22 w
    ++ (brings l (Local k) 18 4 ++ (tests_amount ++ (bounds_amount ++ (counts_down w (halves 22 w) ++ gives l to 22 w))))
