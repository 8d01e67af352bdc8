-- How many words operands take, and shifts by a known amount.
use Rattle.std.specs.Prelude.{ℕ, zero, suc, ◌+◌, ◌-◌, ◌*◌, ◌/◌, ◌%◌, ◌≤◌, Bool, true, false, ◌==◌, if◌then◌else◌}
use Rattle.std.proofs.Common.{arith}
use Rattle.std.proofs.Math.Nat.{mul-le-mul_left, mul-le-mul_right}
use Rattle.vg_lin.specs.declared.instr.Operand.{Operand}
use Rattle.vg_lin.specs.declared.instr.Operand.TheVariants.{Local, Known}
use Rattle.vg_templates.specs.Plain.{bytes_in}
use Rattle.vg_flatten_shapes.specs.Made.{is_zero}
use Rattle.vg_instr_words.specs.Words.{reach_words, found_words, copy_words, test_words, shift_left_words, shift_right_words}

pub bytes_few : (n v : ℕ) → bytes_in n v ≤ n
bytes_few zero v = omega arith
bytes_few (suc n) v = by_zero (v == 0) (bytes_few n (v / 256))
  where
    by_zero : (b : Bool) → bytes_in n (v / 256) ≤ n → (if b then zero else suc (bytes_in n (v / 256))) ≤ suc n
    by_zero true few = omega arith
    by_zero false few = omega (arith, few)

pub reach_few : (a : Operand) → reach_words a ≤ 3
reach_few (Local k) = omega arith
reach_few (Known x) = omega arith

pub found_few : (a : Operand) (n : ℕ) → found_words a n ≤ 3 + n
found_few (Local k) n = omega arith
found_few (Known x) n = let few = bytes_few n x in omega (arith, few)

pub copy_few : (a : Operand) → copy_words a ≤ 14
copy_few (Local k) = omega arith
copy_few (Known v) = let few = bytes_few 4 v in omega (arith, few)

pub zero_test_few : (a : Operand) → test_words (is_zero a) ≤ 11
zero_test_few a = let few = found_few a 4 in omega (arith, few)

-- at most seven bits are shifted, one by one, through at most four bytes
bits_few : (n m : ℕ) → m ≤ 4 → n % 8 * m ≤ 28
bits_few n m h =
    let bits : n % 8 ≤ 7 = grind arith in
    let one = mul-le-mul_right m bits in
    let two = mul-le-mul_left 7 h in
    omega (arith, one, two)

pub shift_left_few : (w : ℕ) (a : Operand) (n : ℕ) → w ≤ 4 → shift_left_words w a n ≤ 42
shift_left_few w a n h =
    let reach = reach_few a in
    let bits = bits_few n (w - n / 8) (omega (arith, h)) in omega (arith, reach, bits, h)

pub shift_right_few : (w : ℕ) (a : Operand) (n : ℕ) → w ≤ 4 → shift_right_words w a n ≤ 42
shift_right_few w a n h =
    let reach = reach_few a in
    let bits = bits_few n (w - n / 8) (omega (arith, h)) in omega (arith, reach, bits, h)
