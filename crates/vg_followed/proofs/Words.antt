-- A turn of the template of a division is short: few words, one for each instruction.
use Rattle.std.proofs.Common.{◌≡◌, ℕ, zero, suc, ◌+◌, ◌%◌, ◌/◌, ◌<◌, ◌≤◌, Bool, true, false, ◌==◌, ◌&&◌, nat_lt, if◌then◌else◌, List, [], ◌∷◌, ◌++◌, length}
use Rattle.std.proofs.Common.{refl, arith, length-append}
use Rattle.avr_instr.specs.declared.instr.Instr.{Instr}
use Rattle.avr_instr.specs.declared.instr.Instr.TheVariants.{Adc, Add, Cpi, Ldd, Ldi, Lsr, Mov, Movw, Sbc, Std}
use Rattle.avr_instr.specs.declared.operand.Base.{Base}
use Rattle.avr_isa.specs.Standing.{width, widths}
use Rattle.avr_isa.proofs.Standing.{widths-append}
use Rattle.vg_lin.specs.declared.instr.Operand.{Operand}
use Rattle.vg_lin.specs.declared.instr.Operand.TheVariants.{Local, Known}
use Rattle.vg_templates.specs.Spots.{Spot, InFrame, InRegisters}
use Rattle.vg_templates.specs.Layouts.{Layout, IsLayout, width_of}
use Rattle.vg_templates.specs.Transfers.{clears, known, is_twice, known_by, moves_two, moves, loads, stores, reach_by, reach, fetch, keep}
use Rattle.vg_templates.specs.Held.{brings, gives}
use Rattle.vg_templates.specs.Chains.{adds, ands, subtracts}
use Rattle.vg_templates.specs.Shifts.{doubles_on}
use Rattle.vg_templates.specs.Products.{four_from, four_times, brings_bit, shifts_remainder, takes_divisor, shifts_dividend, divides_once}

pub record IsShort (most : ℕ) (is : List Instr) : Type 0 where
  pub words : widths is ≡ length is
  pub few : length is ≤ most

one : (i : Instr) (n : ℕ) (is : List Instr) → width i ≡ 1 → IsShort n is → IsShort (suc n) (i ∷ is)
one i n is h k =
    let words = k.words in
    let few = k.few in
    record { words = omega (arith, h, words); few = omega (arith, few) }

both : (m n : ℕ) (a b : List Instr) → IsShort m a → IsShort n b → IsShort (m + n) (a ++ b)
both m n a b h k =
    let w = widths-append a b in
    let l = length-append a b in
    let words = h.words in
    let words' = k.words in
    let few = h.few in
    let few' = k.few in
    record { words = omega (arith, w, l, words, words'); few = omega (arith, l, few, few') }

wider : (m n : ℕ) (is : List Instr) → m ≤ n → IsShort m is → IsShort n is
wider m n is h k = let few = k.few in record { words = k.words; few = omega (arith, few, h) }

none : (n : ℕ) → IsShort n []
none n = record { words = refl; few = omega arith }

clears_short : (d n : ℕ) → IsShort n (clears d n)
clears_short d zero = none 0
clears_short d (suc n) = one (Mov d 1) n (clears (suc d) n) refl (clears_short (suc d) n)

known_short : (d n x : ℕ) → IsShort n (known d n x)
known_short d zero x = none 0
known_short d (suc n) x = one (Ldi d (x % 256)) n (known (suc d) n (x / 256)) refl (known_short (suc d) n (x / 256))

by_short : (b : Bool) (d n x : ℕ) → IsShort (3 + n) (known_by b d n x)
by_short true d n x = record { words = refl; few = omega arith }
by_short false d n x = wider n (3 + n) (known d n x) (omega arith) (known_short d n x)

moves_two_short : (r d : ℕ) → IsShort 2 (moves_two r d)
moves_two_short r d = by_test ((r % 2 == 0) && (d % 2 == 0))
  where
    by_test : (b : Bool) → IsShort 2 (if b then Movw d r ∷ [] else Mov d r ∷ Mov (suc d) (suc r) ∷ [])
    by_test true = record { words = refl; few = omega arith }
    by_test false = record { words = refl; few = omega arith }

moves_short : (r d w n : ℕ) → IsShort n (moves r d w n)
moves_short r d zero n = clears_short d n
moves_short r d (suc w) zero = moves_none w
  where
    moves_none : (w : ℕ) → IsShort 0 (moves r d (suc w) 0)
    moves_none zero = none 0
    moves_none (suc w) = none 0
moves_short r d (suc zero) (suc n) = one (Mov d r) n (clears (suc d) n) refl (clears_short (suc d) n)
moves_short r d (suc (suc w)) (suc zero) = record { words = refl; few = omega arith }
moves_short r d (suc (suc w)) (suc (suc n)) =
    wider (2 + n) (suc (suc n)) (moves_two r d ++ moves (suc (suc r)) (suc (suc d)) w n) (omega arith)
    (both 2 n (moves_two r d) (moves (suc (suc r)) (suc (suc d)) w n) (moves_two_short r d) (moves_short (suc (suc r)) (suc (suc d)) w n))

loads_short : (b : Base) (q d w n : ℕ) → IsShort n (loads b q d w n)
loads_short b q d zero n = clears_short d n
loads_short b q d (suc w) zero = none 0
loads_short b q d (suc w) (suc n) = one (Ldd d b q) n (loads b (suc q) (suc d) w n) refl (loads_short b (suc q) (suc d) w n)

stores_short : (b : Base) (q r w n : ℕ) → IsShort w (stores b q r w n)
stores_short b q r zero n = none 0
stores_short b q r (suc w) zero = one (Std b q 1) w (stores b (suc q) r w 0) refl (stores_short b (suc q) r w 0)
stores_short b q r (suc w) (suc n) = one (Std b q r) w (stores b (suc q) (suc r) w n) refl (stores_short b (suc q) (suc r) w n)

reach_short : (a b : Bool) (at : ℕ) → IsShort 3 (reach_by a b at).code
reach_short true b at = none 3
reach_short false true at = record { words = refl; few = omega arith }
reach_short false false at = record { words = refl; few = omega arith }

fetch_short : (p : Spot) (w d n : ℕ) → IsShort (3 + n) (fetch p w d n)
fetch_short (InRegisters r) w d n = wider n (3 + n) (moves r d w n) (omega arith) (moves_short r d w n)
fetch_short (InFrame at) w d n =
    both 3 n (reach at w).code (loads (reach at w).base (reach at w).displacement d w n) (reach_short (nat_lt (at + w) 64) (nat_lt (at + w) 124) at)
    (loads_short (reach at w).base (reach at w).displacement d w n)

keep_short : (p : Spot) (w r n : ℕ) → IsShort (3 + w) (keep p w r n)
keep_short (InRegisters d) w r n = wider w (3 + w) (moves r d n w) (omega arith) (moves_short r d n w)
keep_short (InFrame at) w r n =
    both 3 w (reach at w).code (stores (reach at w).base (reach at w).displacement r w n) (reach_short (nat_lt (at + w) 64) (nat_lt (at + w) 124) at)
    (stores_short (reach at w).base (reach at w).displacement r w n)

module _ (l : Layout) (ok : IsLayout l) where
  brings_short : (a : Operand) (d n : ℕ) → IsShort (3 + n) (brings l a d n)
  brings_short (Local k) d n = fetch_short (l.spots k) (width_of l k) d n
  brings_short (Known x) d n = by_short (is_twice d n x) d n x

  gives_short : (to r n : ℕ) → to < length l.widths → IsShort 7 (gives l to r n)
  gives_short to r n h =
      let narrow = ok.narrow to h in
      wider (3 + width_of l to) 7 (gives l to r n) (omega (arith, narrow)) (keep_short (l.spots to) (width_of l to) r n)

  pub once_short : (r d : ℕ) (a : Operand) → r < length l.widths → d < length l.widths → IsShort 68 (divides_once l r d a)
  once_short r d a hr hd =
      both 10 58 (brings_bit l d) _ (both 7 3 (brings l (Local d) 22 4) (Add 25 25 ∷ Mov 26 1 ∷ Adc 26 26 ∷ []) (brings_short (Local d) 22 4) listed3)
      (both 12 46 (shifts_remainder l r) _ (both 7 5 (brings l (Local r) 22 4) (Lsr 26 ∷ doubles_on 22 4) (brings_short (Local r) 22 4) listed5)
      (both 20 26 (takes_divisor l a) _
      (both 7 13 (brings l a 18 4) (subtracts 22 (four_from 18) ++ (Sbc 26 26 ∷ ands 18 (four_times 26) ++ adds 22 (four_from 18))) (brings_short a 18 4) listed13)
      (both 7 19 (gives l r 22 4) _ (gives_short r 22 4 hr)
      (both 12 7 (shifts_dividend l d) _ (both 7 5 (brings l (Local d) 22 4) (Cpi 26 0xFF ∷ doubles_on 22 4) (brings_short (Local d) 22 4) compared5)
      (gives_short d 22 4 hd)))))
    where
      listed3 : IsShort 3 (Add 25 25 ∷ Mov 26 1 ∷ Adc 26 26 ∷ [])
      listed3 = record { words = refl; few = omega arith }

      listed5 : IsShort 5 (Lsr 26 ∷ doubles_on 22 4)
      listed5 = record { words = refl; few = omega arith }

      listed13 : IsShort 13 (subtracts 22 (four_from 18) ++ (Sbc 26 26 ∷ ands 18 (four_times 26) ++ adds 22 (four_from 18)))
      listed13 = record { words = refl; few = omega arith }

      compared5 : IsShort 5 (Cpi 26 0xFF ∷ doubles_on 22 4)
      compared5 = record { words = refl; few = omega arith }
