-- The code for the steps of a division where remainder and dividend both have four registers of their own, and the divisor is another operand: each step
-- works in these registers.
use Rattle.std.specs.Prelude.{ℕ, Bool, true, not, ◌==◌, ◌&&◌, if◌then◌else◌, Option, Some, None, List, [], ◌∷◌, ◌++◌}
use Rattle.avr_instr.specs.declared.instr.Instr.{Instr}
use Rattle.avr_instr.specs.declared.instr.Instr.TheVariants.{Brbc, Brbs, Dec, Inc, Ldi}
use Rattle.vg_lin.specs.declared.instr.Operand.{Operand}
use Rattle.vg_lin.specs.declared.instr.Operand.TheVariants.{Local, Known}
use Rattle.vg_templates.specs.Layouts.{Layout}
use Rattle.vg_templates.specs.Held.{brings}
use Rattle.vg_templates.specs.Homes.{home_of}
use Rattle.vg_templates.specs.Chains.{compares, subtracts}
use Rattle.vg_templates.specs.Shifts.{doubles, doubles_on}
use Rattle.vg_templates.specs.Products.{four_from, divides_through}

-- Dividend and remainder are shifted left by one bit as one number, by their first registers; the remainder is compared with the divisor in r18 to r21.
abbrev pub shifts_both : (remainder dividend : ℕ) → List Instr
shifts_both r d = doubles d 4 ++ (doubles_on r 4 ++ compares (four_from r) (four_from 18))

-- The divisor is taken from the remainder, and the lowest bit of the dividend, which is 0, is set.
abbrev pub takes_once : (remainder dividend : ℕ) → List Instr
takes_once r d = subtracts r (four_from 18) ++ Inc d ∷ []

-- One step: a branch leads over the five instructions that take the divisor, where the remainder is less. r26 counts, and while it has not come to 0 a
-- branch leads back over the twenty words of the turn.
abbrev pub turns_in_place : (remainder dividend : ℕ) → List Instr
turns_in_place r d = shifts_both r d ++ Brbs 0 5 ∷ (takes_once r d ++ Dec 26 ∷ Brbc 1 108 ∷ [])

-- the divisor comes once
abbrev pub divides_in_place : Layout → (remainder dividend : ℕ) → (divisor : Operand) → List Instr
divides_in_place l r d a = brings l a 18 4 ++ Ldi 26 32 ∷ turns_in_place r d

-- whether an operand is not this local
abbrev pub is_other : Operand → (local : ℕ) → Bool
is_other (Local k) j = not (k == j)
is_other (Known x) j = true

-- by the homes of remainder and dividend
abbrev pub divides_at : (remainder_home dividend_home : Option ℕ) → Layout → (remainder dividend : ℕ) → (divisor : Operand) → List Instr
divides_at None h l r d a = divides_through l r d a
divides_at (Some p) None l r d a = divides_through l r d a
divides_at (Some p) (Some q) l r d a = if is_other a r && is_other a d then divides_in_place l p q a else divides_through l r d a

abbrev pub divides_steps : Layout → (remainder dividend : ℕ) → (divisor : Operand) → List Instr
divides_steps l r d a = divides_at (home_of l r 4) (home_of l d 4) l r d a
