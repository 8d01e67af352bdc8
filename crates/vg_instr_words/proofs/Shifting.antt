-- How many words shifts take.
use Rattle.std.specs.Prelude.{ℕ, ◌+◌, ◌-◌, ◌*◌, ◌/◌, ◌%◌, ◌^◌, ◌≤◌, Bool, true, false, List, [], ◌∷◌, ◌++◌, Option}
use Rattle.std.proofs.Common.{◌≡◌, inl, inr, ap, ◌∙◌, arith}
use Rattle.std.proofs.Math.Nat.{mul-le-mul_left}
use Rattle.avr_instr.specs.declared.instr.Instr.{Instr}
use Rattle.avr_instr.specs.declared.instr.Instr.TheVariants.{Rjmp}
use Rattle.avr_isa.specs.Standing.{widths}
use Rattle.avr_isa.proofs.Standing.{widths-append}
use Rattle.vg_lin.specs.declared.instr.Operand.{Operand}
use Rattle.vg_lin.specs.declared.instr.Operand.TheVariants.{Local, Known}
use Rattle.vg_templates.specs.Spots.{Spot, InFrame, InRegisters}
use Rattle.vg_templates.specs.Layouts.{Layout, width_of}
use Rattle.vg_templates.specs.Transfers.{clears, loads, reach}
use Rattle.vg_templates.specs.Held.{brings, gives}
use Rattle.vg_templates.specs.Homes.{home_of, made_in, settles}
use Rattle.vg_templates.specs.Operands.{least}
use Rattle.vg_templates.specs.Shifts.{doubles, halves, repeats, fetch_above, brings_above, stays, shift_home, shifts_left, shifts_right}
use Rattle.vg_templates.specs.Amounts.{tests_amount, bounds_amount, counts_down, shifts_left_by, shifts_right_by}
use Rattle.vg_templates.proofs.Bytes.{least_is}
use Rattle.vg_templates.proofs.Finding.{least_less}
use Rattle.vg_instr_words.specs.Words.{IsNarrow, brought_words, shift_left_words, shift_right_words, shift_by_words}
use Rattle.vg_instr_words.proofs.Chains.{clears_words, known_words, moves_words, reach_few, loads_words, doubles_words, halves_words, repeats_words}
use Rattle.vg_instr_words.proofs.Operands.{brings_words, gives_words, settles_words}

-- ---- the parts

fetch_above_words : (s : Spot) (w k d n : ℕ) → widths (fetch_above s w k d n) ≤ 3 + n
fetch_above_words (InFrame at) w k d n =
    let way = reach_few at w in
    let bytes = loads_words (reach at w).base ((reach at w).displacement + k) d (w - k) n in
    let all = widths-append (reach at w).code (loads (reach at w).base ((reach at w).displacement + k) d (w - k) n) in omega (arith, way, bytes, all)
fetch_above_words (InRegisters r) w k d n = let few = moves_words (r + k) d (w - k) n in omega (arith, few)

above_words : (b : Bool) (l : Layout) (a : Operand) (k d n : ℕ) → widths (brings_above b l a k d n) ≤ brought_words a n
above_words true l a k d n = omega arith
above_words false l (Local j) k d n = fetch_above_words (l.spots j) (width_of l j) (least k (width_of l j)) d n
above_words false l (Known x) k d n = let all = known_words d n (x / 256 ^ k) in omega (arith, all)

doubled_words : (times d n : ℕ) → widths (repeats times (doubles d n)) ≡ times * n
doubled_words times d n = repeats_words times (doubles d n) ∙ ap (λ m. times * m) (doubles_words d n)

halved_words : (times d n : ℕ) → widths (repeats times (halves d n)) ≡ times * n
halved_words times d n = repeats_words times (halves d n) ∙ ap (λ m. times * m) (halves_words d n)

-- what is left of a width without some bytes is no more than of a greater one
left_few : (k m w : ℕ) → m ≤ w → m - least k m ≤ w - k
left_few k m w h = elim (least_is k m) [ inl e ↦ (let same = e.0 in omega (arith, same, h)) | inr e ↦ (let same = e.0 in omega (arith, same)) ]

count_words : (n : ℕ) (is : List Instr) → widths (counts_down n is) ≡ 3 + widths is
count_words n is = let all = widths-append is (Rjmp (4093 - n) ∷ []) in omega (arith, all)

module _ (l : Layout) (ok : IsNarrow l) (w to : ℕ) (a : Operand) where
  -- ---- by a known amount

  module _ (n : ℕ) where
    pub shifts_left_words : widths (shifts_left l w to a n) ≤ shift_left_words w a n
    shifts_left_words = by_home (shift_home l a n 0 whole c (home_of l to m))
      where
        m : ℕ
        m = least w (width_of l to)

        whole : ℕ
        whole = least (n / 8) m

        c : ℕ
        c = m - whole

        by_home : (h : Option ℕ)
            → widths (brings_above (stays l a n (made_in h + whole) c) l a 0 (made_in h + whole) c
            ++ (clears (made_in h) whole ++ (repeats (n % 8) (doubles (made_in h + whole) c) ++ settles l to h m)))
            ≤ shift_left_words w a n
        by_home h =
            let d = made_in h + whole in
            let b = stays l a n d c in
            let bring = above_words b l a 0 d c in
            let clear = clears_words (made_in h) whole in
            let shift = doubled_words (n % 8) d c in
            let settle = settles_words l ok to h m in
            let narrow = (least_less w (width_of l to)).0 in
            let inside = (least_less (n / 8) m).1 in
            let fewer = mul-le-mul_left (n % 8) (left_few (n / 8) m w narrow) in
            let one = widths-append (brings_above b l a 0 d c) (clears (made_in h) whole ++ (repeats (n % 8) (doubles d c) ++ settles l to h m)) in
            let two = widths-append (clears (made_in h) whole) (repeats (n % 8) (doubles d c) ++ settles l to h m) in
            let three = widths-append (repeats (n % 8) (doubles d c)) (settles l to h m) in
            omega (arith, bring, clear, shift, settle, narrow, inside, fewer, one, two, three)

    pub shifts_right_words : widths (shifts_right l w to a n) ≤ shift_right_words w a n
    shifts_right_words = by_home (shift_home l a n whole 0 c (home_of l to c))
      where
        whole : ℕ
        whole = least (n / 8) w

        c : ℕ
        c = w - whole

        by_home : (h : Option ℕ)
            → widths (brings_above (stays l a n (made_in h + 0) c) l a whole (made_in h + 0) c
            ++ (repeats (n % 8) (halves (made_in h + 0) c) ++ settles l to h c))
            ≤ shift_right_words w a n
        by_home h =
            let d = made_in h + 0 in
            let b = stays l a n d c in
            let bring = above_words b l a whole d c in
            let shift = halved_words (n % 8) d c in
            let settle = settles_words l ok to h c in
            let left = left_few (n / 8) w w (omega arith) in
            let fewer = mul-le-mul_left (n % 8) left in
            let one = widths-append (brings_above b l a whole d c) (repeats (n % 8) (halves d c) ++ settles l to h c) in
            let two = widths-append (repeats (n % 8) (halves d c)) (settles l to h c) in
            omega (arith, bring, shift, settle, left, fewer, one, two)

  -- ---- by the amount in a local

  module _ (k : ℕ) where
    by_words : (n : ℕ) (is : List Instr) → widths is ≡ n → n ≤ w
        → widths (brings l a 22 n ++ (brings l (Local k) 18 4 ++ (tests_amount ++ (bounds_amount ++ (counts_down n is ++ gives l to 22 n)))))
        ≤ shift_by_words w a
    by_words n is long narrow =
        let bring = brings_words l a 22 n in
        let amount = brings_words l (Local k) 18 4 in
        let count = count_words n is in
        let give = gives_words l ok to 22 n in
        let one = widths-append (brings l a 22 n) (brings l (Local k) 18 4 ++ (tests_amount ++ (bounds_amount ++ (counts_down n is ++ gives l to 22 n)))) in
        let two = widths-append (brings l (Local k) 18 4) (tests_amount ++ (bounds_amount ++ (counts_down n is ++ gives l to 22 n))) in
        let three = widths-append (counts_down n is) (gives l to 22 n) in
        omega (arith, bring, amount, count, give, one, two, three, long, narrow)

    pub shifts_left_by_words : widths (shifts_left_by l w to a k) ≤ shift_by_words w a
    shifts_left_by_words =
        by_words (least w (width_of l to)) (doubles 22 (least w (width_of l to))) (doubles_words 22 (least w (width_of l to)))
        (least_less w (width_of l to)).0

    pub shifts_right_by_words : widths (shifts_right_by l w to a k) ≤ shift_by_words w a
    shifts_right_by_words = by_words w (halves 22 w) (halves_words 22 w) (omega arith)
