-- Shifted numbers that are cut to low bytes.
use Rattle.std.proofs.Common.{◌≡◌, ℕ, zero, suc, ◌+◌, ◌-◌, ◌*◌, ◌/◌, ◌%◌, ◌^◌, ◌<◌, ◌≤◌, inl, inr, Bool, true, false, nat_lt, if◌then◌else◌}
use Rattle.std.proofs.Common.{Some, refl, sym, ap, ◌∙◌, arith}
use Rattle.std.proofs.Math.Nat.{pow-suc, mod-eq_of_lt, mod-lt, mul-add-mod_self_left, mul-mod_right, div-add-mod, div-div-eq-div-mul, div-eq_of_lt}
use Rattle.std.proofs.Math.Nat.{mul-lt-mul_of_pos_left, mul-add-div, zero-div}
use Rattle.std.proofs.lemmas.Nat.{pow-add, mul-mod_first}
use Rattle.vg_lin.specs.declared.instr.Operator.TheVariants.{ShiftLeft, ShiftRight}
use Rattle.vg_lin.specs.Values.{low, computed}
use Rattle.vg_templates.specs.Operands.{least}
use Rattle.vg_templates.proofs.Bytes.{least_is, cut_twice}
use Rattle.vg_templates.proofs.Remainders.{positive}

-- powers of 256 as powers of 2
pub bits : (n : ℕ) → 256 ^ n ≡ 2 ^ (8 * n)
bits zero = refl
bits (suc n) =
    let more : 8 * suc n ≡ 8 * n + 8 = omega arith in
    pow-suc 256 n ∙ ap (λ k. k * 256) (bits n) ∙ sym (ap (λ k. 2 ^ k) more ∙ pow-add 2 (8 * n) 8)

-- a number below a power, with a multiple of the power, is the remainder of the sum
pub low_part : (s p c t : ℕ) → s < p → s + p * c ≡ t → s ≡ t % p
low_part s p c t small e =
    let turned : p * c + s ≡ t = omega (arith, e) in sym (mod-eq_of_lt small) ∙ sym (mul-add-mod_self_left p c s) ∙ ap (λ k. k % p) turned

-- and the multiple is the quotient
pub high_part : (s p c t : ℕ) → s < p → s + p * c ≡ t → c ≡ t / p
high_part s p c t small e =
    let some : 0 < p = omega arith in
    let turned : p * c + s ≡ t = omega (arith, e) in
    sym (mul-add-div some c s ∙ ap (λ k. c + k) (div-eq_of_lt small) ∙ (let f : c + 0 ≡ c = omega arith in f)) ∙ ap (λ k. k / p) turned

-- a multiple of a remainder
pub scaled : (p q y : ℕ) → 0 < p → 0 < q → p * (y % q) ≡ p * y % (p * q)
scaled p q y some some' =
    let r = y % q in
    let k = y / q in
    let parts : q * k + r ≡ y = div-add-mod y q in
    let less : p * r < p * q = mul-lt-mul_of_pos_left (mod-lt y some') some in
    let spread : p * (q * k + r) ≡ p * r + p * q * k = grind arith in
    low_part (p * r) (p * q) k (p * y) less (sym spread ∙ ap (λ z. p * z) parts)

-- a power of 2 by whole bytes and the bits that are left over
pub amount : (n : ℕ) → 2 ^ n ≡ 256 ^ (n / 8) * 2 ^ (n % 8)
amount n =
    let parts : n ≡ 8 * (n / 8) + n % 8 = omega arith in
    ap (λ k. 2 ^ k) parts ∙ pow-add 2 (8 * (n / 8)) (n % 8) ∙ ap (λ k. k * 2 ^ (n % 8)) (sym (bits (n / 8)))

-- what more bits than a width has leave
pub all_out : (x n m : ℕ) → 8 * m ≤ n → x * 2 ^ n % 256 ^ m ≡ 0
all_out x n m h =
    let rest = n - 8 * m in
    let parts : n ≡ 8 * m + rest = omega arith in
    let power : 2 ^ n ≡ 256 ^ m * 2 ^ rest = ap (λ k. 2 ^ k) parts ∙ pow-add 2 (8 * m) rest ∙ ap (λ k. k * 2 ^ rest) (sym (bits m)) in
    let q = 256 ^ m in
    let r = 2 ^ rest in
    let turned : x * (q * r) ≡ q * (x * r) = grind arith in
    ap (λ k. x * k % q) power ∙ ap (λ k. k % q) turned ∙ mul-mod_right q (x * r)

-- bytes that came in further up, shifted by what is left over
pub left_is : (x n m : ℕ) → (let whole = least (n / 8) m in 256 ^ whole * (x % 256 ^ (m - whole) * 2 ^ (n % 8) % 256 ^ (m - whole)) ≡ x * 2 ^ n % 256 ^ m)
left_is x n m = elim (least_is (n / 8) m) [ inl h ↦ inside h.0 h.1 | inr h ↦ outside h.0 h.1 ]
  where
    inside : least (n / 8) m ≡ n / 8 → n / 8 ≤ m
        → (let whole = least (n / 8) m in 256 ^ whole * (x % 256 ^ (m - whole) * 2 ^ (n % 8) % 256 ^ (m - whole)) ≡ x * 2 ^ n % 256 ^ m)
    inside e less =
        let k = n / 8 in
        let p = 256 ^ k in
        let q = 256 ^ (m - k) in
        let b = 2 ^ (n % 8) in
        let parts : m ≡ k + (m - k) = omega (arith, less) in
        let power : 256 ^ m ≡ p * q = ap (λ j. 256 ^ j) parts ∙ pow-add 256 k (m - k) in
        let turned : p * (x * b) ≡ x * (p * b) = grind arith in
        ap (λ j. 256 ^ j * (x % 256 ^ (m - j) * b % 256 ^ (m - j))) e
        ∙ ap (λ j. p * j) (mul-mod_first x b q)
        ∙ scaled p q (x * b) (positive k) (positive (m - k))
        ∙ ap (λ j. j % (p * q)) (turned ∙ ap (λ j. x * j) (sym (amount n)))
        ∙ ap (λ j. x * 2 ^ n % j) (sym power)

    outside : least (n / 8) m ≡ m → m ≤ n / 8
        → (let whole = least (n / 8) m in 256 ^ whole * (x % 256 ^ (m - whole) * 2 ^ (n % 8) % 256 ^ (m - whole)) ≡ x * 2 ^ n % 256 ^ m)
    outside e less =
        let y = x % 256 ^ 0 * 2 ^ (n % 8) in
        let none : m - m ≡ 0 = omega arith in
        let nothing : 256 ^ m * (y % 1) ≡ 0 = (let f : y % 1 ≡ 0 = omega arith in ap (λ j. 256 ^ m * j) f ∙ (let f : 256 ^ m * 0 ≡ 0 = omega arith in f)) in
        ap (λ j. 256 ^ j * (x % 256 ^ (m - j) * 2 ^ (n % 8) % 256 ^ (m - j))) e
        ∙ ap (λ j. 256 ^ m * (x % 256 ^ j * 2 ^ (n % 8) % 256 ^ j)) none
        ∙ nothing
        ∙ sym (all_out x n m (omega (arith, less)))

some_same : (a b : ℕ) → Some a ≡ Some b → a ≡ b
some_same a b e = cc

-- what a shift to the left computes, cut to the local
pub left_cut : (w x n z t : ℕ) → computed ShiftLeft w x n ≡ Some z → x * 2 ^ n % 256 ^ least w t % 256 ^ t ≡ z % 256 ^ t
left_cut w x n z t e = by_test (nat_lt n (8 * w)) refl e
  where
    by_test : (b : Bool) → nat_lt n (8 * w) ≡ b → Some (if b then low w (x * 2 ^ n) else 0) ≡ Some z
        → x * 2 ^ n % 256 ^ least w t % 256 ^ t ≡ z % 256 ^ t
    by_test true k f = elim (least_is w t) [
      | inl h ↦ ap (λ j. x * 2 ^ n % 256 ^ j % 256 ^ t) h.0 ∙ ap (λ j. j % 256 ^ t) (some_same _ z f)
      | inr h ↦
          ap (λ j. x * 2 ^ n % 256 ^ j % 256 ^ t) h.0
          ∙ cut_twice (x * 2 ^ n) t t (omega arith)
          ∙ sym (cut_twice (x * 2 ^ n) t w h.1)
          ∙ ap (λ j. j % 256 ^ t) (some_same _ z f)
    ]
    by_test false k f =
        let out : 8 * w ≤ n = grind (arith, k) in
        let less : least w t ≤ w = elim (least_is w t) [ inl h ↦ omega (arith, h.0) | inr h ↦ omega (arith, h.0, h.1) ] in
        ap (λ j. j % 256 ^ t) (all_out x n (least w t) (omega (arith, out, less)) ∙ some_same 0 z f)

-- what a shift to the right leaves of the bytes further up
pub right_is : (w x n z y h : ℕ) → computed ShiftRight w x n ≡ Some z → y ≡ x % 256 ^ w
    → (let whole = least (n / 8) w in h ≡ y / 256 ^ whole → (whole ≡ w → h ≡ 0) → h / 2 ^ (n % 8) ≡ z)
right_is w x n z y h e cut high none = by_test (nat_lt n (8 * w)) refl e
  where
    by_test : (b : Bool) → nat_lt n (8 * w) ≡ b → Some (if b then low w x / 2 ^ n else 0) ≡ Some z → h / 2 ^ (n % 8) ≡ z
    by_test true k f =
        let inside : n < 8 * w = grind (arith, k) in
        let here : least (n / 8) w ≡ n / 8 = elim (least_is (n / 8) w) [ inl q ↦ q.0 | inr q ↦ absurd (let more = q.1 in omega (arith, more, inside)) ] in
        ap (λ j. j / 2 ^ (n % 8)) (high ∙ ap (λ j. y / 256 ^ j) here)
        ∙ div-div-eq-div-mul y (256 ^ (n / 8)) (2 ^ (n % 8))
        ∙ ap (λ j. y / j) (sym (amount n))
        ∙ ap (λ j. j / 2 ^ n) cut
        ∙ some_same _ z f
    by_test false k f =
        let out : 8 * w ≤ n = grind (arith, k) in
        let here : least (n / 8) w ≡ w = elim (least_is (n / 8) w) [ inl q ↦ q.0 ∙ (let less = q.1 in let same : n / 8 ≡ w = omega (arith, less, out) in same) | inr q ↦ q.0 ] in
        ap (λ j. j / 2 ^ (n % 8)) (none here) ∙ zero-div (2 ^ (n % 8)) ∙ some_same 0 z f
