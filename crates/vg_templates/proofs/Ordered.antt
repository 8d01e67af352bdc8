-- Signed numbers of so many bytes stand in the order of the numbers with the highest bit turned over.
use Rattle.std.proofs.Common.{◌≡◌, ℕ, zero, suc, ◌+◌, ◌-◌, ◌*◌, ◌/◌, ◌%◌, ◌^◌, ◌<◌, ◌≤◌, Bool, true, false, refl, sym, ap, ◌∙◌, arith, nat_lt, if◌then◌else◌}
use Rattle.std.specs.Prelude.{ℤ, pos, negsuc, int_lt}
use Rattle.std.proofs.Math.Nat.{pow-suc, mod-eq_of_lt, mod-lt, add-mod_left}
use Rattle.vg_lin.specs.Values.{low, signed}
use Rattle.vg_templates.proofs.Numbers.{cut}
use Rattle.vg_templates.specs.Chained.{from_least}
use Rattle.vg_templates.proofs.Remainders.{positive}

from_least-is : (n v : ℕ) → from_least (suc n) v ≡ (v + 128 * 256 ^ n) % 256 ^ suc n
from_least-is zero v = refl
from_least-is (suc n) v =
    let h = 128 * 256 ^ n in
    let e = pow-suc 256 n in
    let big : 128 * 256 ^ suc n ≡ 256 * h = omega (arith, e) in
    let low_byte : v % 256 ≡ (v + 128 * 256 ^ suc n) % 256 = omega (arith, big) in
    let rest : v / 256 + h ≡ (v + 128 * 256 ^ suc n) / 256 = omega (arith, big) in
    cut (v + 128 * 256 ^ suc n) (suc n) (v % 256) (from_least (suc n) (v / 256)) low_byte
    (from_least-is n (v / 256) ∙ ap (λ k. k % 256 ^ suc n) rest)

-- a number below a power as a signed one
abbrev as_signed : (power a : ℕ) → ℤ
as_signed p a = if nat_lt (2 * a) p then pos a else negsuc (p - 1 - a)

turned_low : (h a : ℕ) → a < h → (a + h) % (h + h) ≡ a + h
turned_low h a k = mod-eq_of_lt (omega arith)

turned_high : (h a : ℕ) → h ≤ a → a < h + h → (a + h) % (h + h) ≡ a - h
turned_high h a k l =
    let e : a + h ≡ h + h + (a - h) = omega arith in
    let less : a - h < h + h = omega arith in
    ap (λ n. n % (h + h)) e ∙ add-mod_left (h + h) (a - h) ∙ mod-eq_of_lt less

low_low : (h a b : ℕ) → nat_lt (a + h) (b + h) ≡ int_lt (pos a) (pos b)
low_low h a b = grind arith

low_high : (h a b : ℕ) → a < h → h ≤ b → b < h + h → nat_lt (a + h) (b - h) ≡ int_lt (pos a) (negsuc (h + h - 1 - b))
low_high h a b p q r = grind arith

high_low : (h a b : ℕ) → h ≤ a → a < h + h → b < h → nat_lt (a - h) (b + h) ≡ int_lt (negsuc (h + h - 1 - a)) (pos b)
high_low h a b p q r = grind arith

high_high : (h a b : ℕ) → h ≤ a → a < h + h → h ≤ b → b < h + h → nat_lt (a - h) (b - h) ≡ int_lt (negsuc (h + h - 1 - a)) (negsuc (h + h - 1 - b))
high_high h a b p q r s = grind arith

order : (h a b : ℕ) → a < h + h → b < h + h → nat_lt ((a + h) % (h + h)) ((b + h) % (h + h)) ≡ int_lt (as_signed (h + h) a) (as_signed (h + h) b)
order h a b p q = by_signs (nat_lt (2 * a) (h + h)) (nat_lt (2 * b) (h + h)) refl refl
  where
    by_signs : (x y : Bool) → nat_lt (2 * a) (h + h) ≡ x → nat_lt (2 * b) (h + h) ≡ y
        → nat_lt ((a + h) % (h + h)) ((b + h) % (h + h))
        ≡ int_lt (if x then pos a else negsuc (h + h - 1 - a)) (if y then pos b else negsuc (h + h - 1 - b))
    by_signs true true e f =
        let a_low : a < h = grind (arith, e) in
        let b_low : b < h = grind (arith, f) in
        ap (λ n. nat_lt n ((b + h) % (h + h))) (turned_low h a a_low) ∙ ap (nat_lt (a + h)) (turned_low h b b_low) ∙ low_low h a b
    by_signs true false e f =
        let a_low : a < h = grind (arith, e) in
        let b_high : h ≤ b = grind (arith, f) in
        ap (λ n. nat_lt n ((b + h) % (h + h))) (turned_low h a a_low) ∙ ap (nat_lt (a + h)) (turned_high h b b_high q) ∙ low_high h a b a_low b_high q
    by_signs false true e f =
        let a_high : h ≤ a = grind (arith, e) in
        let b_low : b < h = grind (arith, f) in
        ap (λ n. nat_lt n ((b + h) % (h + h))) (turned_high h a a_high p) ∙ ap (nat_lt (a - h)) (turned_low h b b_low) ∙ high_low h a b a_high p b_low
    by_signs false false e f =
        let a_high : h ≤ a = grind (arith, e) in
        let b_high : h ≤ b = grind (arith, f) in
        ap (λ n. nat_lt n ((b + h) % (h + h))) (turned_high h a a_high p) ∙ ap (nat_lt (a - h)) (turned_high h b b_high q)
        ∙ high_high h a b a_high p b_high q

pub signed_order : (w x y : ℕ) → 0 < w → nat_lt (from_least w (low w x)) (from_least w (low w y)) ≡ int_lt (signed w x) (signed w y)
signed_order zero x y some = absurd (omega arith)
signed_order (suc n) x y some =
    let p = 256 ^ suc n in
    let h = 128 * 256 ^ n in
    let e = pow-suc 256 n in
    let twice : p ≡ h + h = omega (arith, e) in
    let a = low (suc n) x in
    let b = low (suc n) y in
    let a_small = mod-lt x (positive (suc n)) in
    let b_small = mod-lt y (positive (suc n)) in
    ap (λ k. nat_lt k (from_least (suc n) b)) (from_least-is n a)
    ∙ ap (nat_lt ((a + h) % p)) (from_least-is n b)
    ∙ ap (λ k. nat_lt ((a + h) % k) ((b + h) % k)) twice
    ∙ order h a b (omega (arith, a_small, twice)) (omega (arith, b_small, twice))
    ∙ sym (ap (λ k. int_lt (as_signed k a) (as_signed k b)) twice)
