-- What the flags say of the whole numbers.
use Rattle.std.proofs.Common.{ℕ, ◌+◌, ◌-◌, ◌%◌, ◌<◌, ◌≤◌, arith}
use Rattle.std.specs.Prelude.{IsTrue, IsFalse, pos, ◌+ℤ◌, ◌-ℤ◌}
use Rattle.avr_isa.specs.Signed.{signed, IsSignedByte, signed_word, IsSignedWord}
use Rattle.avr_isa.specs.Flags.{flags_of_sum, flags_of_difference, flags_of_wide_sum, flags_of_wide_difference}

-- a byte as a signed number, counted from -128
abbrev from_least : ℕ → ℕ
from_least byte = (byte + 128) % 256

sum_in : (a b c : ℕ) → a < 256 → b < 256 → c < 2 → IsFalse (flags_of_sum a b c).overflow
    → (128 ≤ from_least a + from_least b + c) × (from_least a + from_least b + c < 384)
sum_in a b c p q r t = grind arith

sum_fits : (a b c : ℕ) → a < 256 → b < 256 → c < 2 → 128 ≤ from_least a + from_least b + c → from_least a + from_least b + c < 384
    → IsSignedByte (signed a +ℤ signed b +ℤ pos c)
sum_fits a b c p q r s t = grind arith

pub sum_overflows : (a b c : ℕ) → a < 256 → b < 256 → c < 2 → IsTrue (flags_of_sum a b c).overflow → IsSignedByte (signed a +ℤ signed b +ℤ pos c) → ⊥
sum_overflows a b c p q r t s = grind arith

pub sum_stays : (a b c : ℕ) → a < 256 → b < 256 → c < 2 → IsFalse (flags_of_sum a b c).overflow → IsSignedByte (signed a +ℤ signed b +ℤ pos c)
sum_stays a b c p q r t = let h = sum_in a b c p q r t in sum_fits a b c p q r h.0 h.1

difference_in : (a b c : ℕ) → a < 256 → b < 256 → c < 2 → IsFalse (flags_of_difference a b c).overflow
    → (128 ≤ from_least a + 256 - (from_least b + c)) × (from_least a + 256 - (from_least b + c) < 384)
difference_in a b c p q r t = grind arith

difference_fits : (a b c : ℕ) → a < 256 → b < 256 → c < 2 → 128 ≤ from_least a + 256 - (from_least b + c) → from_least a + 256 - (from_least b + c) < 384
    → IsSignedByte (signed a -ℤ signed b -ℤ pos c)
difference_fits a b c p q r s t = grind arith

pub difference_overflows : (a b c : ℕ) → a < 256 → b < 256 → c < 2 → IsTrue (flags_of_difference a b c).overflow
    → IsSignedByte (signed a -ℤ signed b -ℤ pos c) → ⊥
difference_overflows a b c p q r t s = grind arith

pub difference_stays : (a b c : ℕ) → a < 256 → b < 256 → c < 2 → IsFalse (flags_of_difference a b c).overflow → IsSignedByte (signed a -ℤ signed b -ℤ pos c)
difference_stays a b c p q r t = let h = difference_in a b c p q r t in difference_fits a b c p q r h.0 h.1

pub wide_sum_overflows : (s a k : ℕ) → a < 65536 → k < 64 → IsTrue (flags_of_wide_sum s a k).overflow → IsSignedWord (signed_word a +ℤ pos k) → ⊥
wide_sum_overflows s a k p q t h = grind arith

pub wide_sum_stays : (s a k : ℕ) → a < 65536 → k < 64 → IsFalse (flags_of_wide_sum s a k).overflow → IsSignedWord (signed_word a +ℤ pos k)
wide_sum_stays s a k p q t = grind arith

pub wide_difference_overflows : (s a k : ℕ) → a < 65536 → k < 64 → IsTrue (flags_of_wide_difference s a k).overflow → IsSignedWord (signed_word a -ℤ pos k) → ⊥
wide_difference_overflows s a k p q t h = grind arith

pub wide_difference_stays : (s a k : ℕ) → a < 65536 → k < 64 → IsFalse (flags_of_wide_difference s a k).overflow → IsSignedWord (signed_word a -ℤ pos k)
wide_difference_stays s a k p q t = grind arith
