-- How many words the product of two bytes takes, and the steps of a division.
use Rattle.std.specs.Prelude.{ℕ, ◌+◌, ◌≤◌, Bool, true, false, ◌&&◌, if◌then◌else◌, [], ◌∷◌, ◌++◌, length, Option, Some, None}
use Rattle.std.proofs.Common.{arith}
use Rattle.avr_instr.specs.declared.instr.Instr.TheVariants.{Adc, Add, Cpi, Eor, Ldi, Lsr, Mov, Movw, Mul, Sbc}
use Rattle.avr_isa.specs.Standing.{widths}
use Rattle.avr_isa.proofs.Standing.{widths-append}
use Rattle.vg_lin.specs.declared.instr.Operand.{Operand}
use Rattle.vg_lin.specs.declared.instr.Operand.TheVariants.{Local}
use Rattle.vg_templates.specs.Layouts.{Layout}
use Rattle.vg_templates.specs.Held.{brings, gives}
use Rattle.vg_templates.specs.Homes.{home_of}
use Rattle.vg_templates.specs.Chains.{adds, ands, subtracts}
use Rattle.vg_templates.specs.Operands.{finds, found_in}
use Rattle.vg_templates.specs.Plain.{first_of}
use Rattle.vg_templates.specs.Shifts.{doubles_on}
use Rattle.vg_templates.specs.Products.{multiplies, four_from, four_times, brings_bit, shifts_remainder, takes_divisor, shifts_dividend}
use Rattle.vg_templates.specs.Products.{divides_once, turns_back, divides_through}
use Rattle.vg_templates.specs.Divisions.{turns_in_place, divides_in_place, is_other, divides_at, divides_steps}
use Rattle.vg_instr_words.specs.Words.{IsNarrow, reach_words, found_words}
use Rattle.vg_instr_words.proofs.Operands.{brings_words, finds_words, gives_words}

module _ (l : Layout) (ok : IsNarrow l) where
  pub multiplies_words : (to : ℕ) (a b : Operand) → widths (multiplies l to a b) ≤ found_words a 1 + found_words b 1 + 10
  multiplies_words to a b =
      let left = finds_words l a 18 1 in
      let right = finds_words l b 22 1 in
      let give = gives_words l ok to 22 2 in
      let work = Mul (first_of (found_in l a 18 1)) (first_of (found_in l b 22 1)) ∷ Movw 22 0 ∷ Eor 1 1 ∷ gives l to 22 2 in
      let one = widths-append (finds l a 18 1) (finds l b 22 1 ++ work) in
      let two = widths-append (finds l b 22 1) work in omega (arith, left, right, give, one, two)

  -- ---- one step

  module _ (r d : ℕ) (a : Operand) where
    bit_words : widths (brings_bit l d) ≤ 10
    bit_words =
        let bring = brings_words l (Local d) 22 4 in
        let all = widths-append (brings l (Local d) 22 4) (Add 25 25 ∷ Mov 26 1 ∷ Adc 26 26 ∷ []) in omega (arith, bring, all)

    remainder_words : widths (shifts_remainder l r) ≤ 12
    remainder_words =
        let bring = brings_words l (Local r) 22 4 in
        let all = widths-append (brings l (Local r) 22 4) (Lsr 26 ∷ doubles_on 22 4) in omega (arith, bring, all)

    divisor_words : widths (takes_divisor l a) ≤ reach_words a + 17
    divisor_words =
        let bring = brings_words l a 18 4 in
        let all = widths-append (brings l a 18 4)
        (subtracts 22 (four_from 18) ++ (Sbc 26 26 ∷ ands 18 (four_times 26) ++ adds 22 (four_from 18))) in
        omega (arith, bring, all)

    dividend_words : widths (shifts_dividend l d) ≤ 12
    dividend_words =
        let bring = brings_words l (Local d) 22 4 in
        let all = widths-append (brings l (Local d) 22 4) (Cpi 26 0xFF ∷ doubles_on 22 4) in omega (arith, bring, all)

    once_words : widths (divides_once l r d a) ≤ reach_words a + 65
    once_words =
        let bit = bit_words in
        let remainder = remainder_words in
        let divisor = divisor_words in
        let dividend = dividend_words in
        let give = gives_words l ok r 22 4 in
        let last = gives_words l ok d 22 4 in
        let is = takes_divisor l a ++ (gives l r 22 4 ++ (shifts_dividend l d ++ gives l d 22 4)) in
        let one = widths-append (brings_bit l d) (shifts_remainder l r ++ is) in
        let two = widths-append (shifts_remainder l r) is in
        let three = widths-append (takes_divisor l a) (gives l r 22 4 ++ (shifts_dividend l d ++ gives l d 22 4)) in
        let four = widths-append (gives l r 22 4) (shifts_dividend l d ++ gives l d 22 4) in
        let five = widths-append (shifts_dividend l d) (gives l d 22 4) in
        omega (arith, bit, remainder, divisor, dividend, give, last, one, two, three, four, five)

    -- ---- all steps

    through_words : widths (divides_through l r d a) ≤ reach_words a + 69
    through_words =
        let once = once_words in
        let all = widths-append (divides_once l r d a) (turns_back (length (divides_once l r d a))) in omega (arith, once, all)

    in_place_words : (p q : ℕ) → widths (divides_in_place l p q a) ≤ reach_words a + 69
    in_place_words p q =
        let bring = brings_words l a 18 4 in
        let all = widths-append (brings l a 18 4) (Ldi 26 32 ∷ turns_in_place p q) in omega (arith, bring, all)

    at_words : (h i : Option ℕ) → widths (divides_at h i l r d a) ≤ reach_words a + 69
    at_words None i = through_words
    at_words (Some p) None = through_words
    at_words (Some p) (Some q) = by_others (is_other a r && is_other a d)
      where
        by_others : (b : Bool) → widths (if b then divides_in_place l p q a else divides_through l r d a) ≤ reach_words a + 69
        by_others true = in_place_words p q
        by_others false = through_words

    pub divides_words : widths (divides_steps l r d a) ≤ reach_words a + 69
    divides_words = at_words (home_of l r 4) (home_of l d 4)
