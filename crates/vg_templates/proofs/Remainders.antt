-- Numbers that are cut to low bytes: what chains leave is what linear code says.
use Rattle.std.proofs.Common.{◌≡◌, ℕ, zero, suc, ◌+◌, ◌-◌, ◌*◌, ◌/◌, ◌%◌, ◌^◌, ◌<◌, ◌≤◌, ◌⊎◌, inl, inr, Bool, true, false, refl, sym, ap, ◌∙◌, arith}
use Rattle.std.specs.Prelude.{bit_and, bit_or, bit_xor}
use Rattle.std.proofs.Math.Nat.{pow-suc, mod-eq_of_lt, mod-lt, add-mod, add-mod-mod, mod-add-mod, add-mod_left, mul-add-mod_self_left, div-add-mod}
use Rattle.std.proofs.lemmas.Nat.{pow-add, and_mod, or_mod, xor_mod}
use Rattle.avr_isa.specs.Flags.{number as number_of}
use Rattle.avr_view.proofs.Going.{below_or_not}
use Rattle.vg_templates.proofs.Bytes.{cut_twice}

pub positive : (n : ℕ) → 0 < 256 ^ n
positive zero = omega arith
positive (suc n) = let h = positive n in let e = pow-suc 256 n in omega (arith, h, e)

-- powers of 256 as powers of 2
bits : (n : ℕ) → 256 ^ n ≡ 2 ^ (8 * n)
bits zero = refl
bits (suc n) =
    let more : 8 * suc n ≡ 8 * n + 8 = omega arith in
    pow-suc 256 n ∙ ap (λ k. k * 256) (bits n) ∙ sym (ap (λ k. 2 ^ k) more ∙ pow-add 2 (8 * n) 8)

-- a carry adds nothing or the power
carried_part : (p : ℕ) (c : Bool) → (p * number_of c ≡ 0) ⊎ (p * number_of c ≡ p)
carried_part p true = inr (omega arith)
carried_part p false = inl (omega arith)

-- ---- sums

pub plus_is : (s x y w n : ℕ) (c : Bool) → s < 256 ^ n → n ≤ w → s + 256 ^ n * number_of c ≡ x % 256 ^ n + y % 256 ^ n + 0
    → s ≡ (x + y) % 256 ^ w % 256 ^ n
plus_is s x y w n c small less sum =
    let p = 256 ^ n in
    let turned : p * number_of c + s ≡ x % p + y % p = omega (arith, sum) in
    sym (mod-eq_of_lt small)
    ∙ sym (mul-add-mod_self_left p (number_of c) s)
    ∙ ap (λ k. k % p) turned
    ∙ sym (add-mod x y p)
    ∙ sym (cut_twice (x + y) n w less)

-- a sum by way of a difference
pub plus_known_is : (s x y w n : ℕ) (c : Bool) → s < 256 ^ n → n ≤ w
    → s + ((256 ^ n - y % 256 ^ n) % 256 ^ n + 0) ≡ x % 256 ^ n + 256 ^ n * number_of c → s ≡ (x + y) % 256 ^ w % 256 ^ n
plus_known_is s x y w n c small less difference =
    let p = 256 ^ n in
    let right = p - y % p in
    let y_small = mod-lt y (positive n) in
    let turned : s + right % p ≡ p * number_of c + x % p = omega (arith, difference) in
    let whole : s + right + y % p ≡ p + s = omega (arith, y_small) in
    let back : (s + right) % p ≡ x % p =
    sym (add-mod-mod s right p) ∙ ap (λ k. k % p) turned ∙ mul-add-mod_self_left p (number_of c) (x % p) ∙ mod-eq_of_lt (mod-lt x (positive n)) in
    sym (mod-eq_of_lt small)
    ∙ sym (add-mod_left p s)
    ∙ sym (ap (λ k. k % p) whole)
    ∙ sym (mod-add-mod (s + right) p (y % p))
    ∙ ap (λ k. (k + y % p) % p) back
    ∙ sym (add-mod x y p)
    ∙ sym (cut_twice (x + y) n w less)

-- ---- differences

-- a number below twice another one is its remainder, or as much more
twice : (t p x : ℕ) → 0 < p → t < p + p → t % p ≡ x → (t ≡ x) ⊎ (t ≡ p + x)
twice t p x positive' small h = elim (below t p) [
  | inl low ↦ inl (sym (mod-eq_of_lt low) ∙ h)
  | inr high ↦ (let rest : p + (t - p) ≡ t = omega arith in
      let less : t - p < p = omega arith in
      let is : t - p ≡ x = sym (mod-eq_of_lt less) ∙ sym (add-mod_left p (t - p)) ∙ ap (λ k. k % p) rest ∙ h in
      inr (omega (arith, is, rest)))
]
  where
    below : (a b : ℕ) → (a < b) ⊎ (b ≤ a)
    below a b = below_or_not a b

same_difference : (s z x y p k : ℕ) → s < p → z < p → x < p → y < p → (k ≡ 0) ⊎ (k ≡ p) → s + (y + 0) ≡ x + k → (z + y ≡ x) ⊎ (z + y ≡ p + x) → s ≡ z
same_difference s z x y p k a b c d (inl e) f (inl g) = omega arith
same_difference s z x y p k a b c d (inl e) f (inr g) = omega arith
same_difference s z x y p k a b c d (inr e) f (inl g) = omega arith
same_difference s z x y p k a b c d (inr e) f (inr g) = omega arith

pub minus_is : (s x y w n : ℕ) (c : Bool) → s < 256 ^ n → n ≤ w → s + (y % 256 ^ n + 0) ≡ x % 256 ^ n + 256 ^ n * number_of c
    → s ≡ (x + (256 ^ w - y % 256 ^ w)) % 256 ^ w % 256 ^ n
minus_is s x y w n c small less difference =
    let p = 256 ^ n in
    let q = 256 ^ w in
    let r = y % q in
    let a = x + (q - r) in
    let z = a % p in
    let r_small = mod-lt y (positive w) in
    let parts = div-add-mod y q in
    let total : a + y ≡ q * (y / q) + (q + x) = omega (arith, r_small, parts) in
    let whole : (a + y) % q ≡ x % q = ap (λ k. k % q) total ∙ mul-add-mod_self_left q (y / q) (q + x) ∙ add-mod_left q x in
    let sum : (z + y % p) % p ≡ x % p =
    sym (add-mod a y p) ∙ sym (cut_twice (a + y) n w less) ∙ ap (λ k. k % p) whole ∙ cut_twice x n w less in
    let z_small = mod-lt a (positive n) in
    let y_small = mod-lt y (positive n) in
    let x_small = mod-lt x (positive n) in
    same_difference s z (x % p) (y % p) p (p * number_of c) small z_small x_small y_small (carried_part p c) difference
    (twice (z + y % p) p (x % p) (positive n) (omega (arith, z_small, y_small)) sum)
    ∙ sym (cut_twice a n w less)

-- ---- logic

pub and_is : (s x y w n : ℕ) → n ≤ w → s ≡ bit_and (x % 256 ^ n) (y % 256 ^ n) → s ≡ bit_and x y % 256 ^ w % 256 ^ n
and_is s x y w n less h =
    h
    ∙ ap (λ p. bit_and (x % p) (y % p)) (bits n)
    ∙ sym (and_mod x y (8 * n))
    ∙ sym (ap (λ p. bit_and x y % p) (bits n))
    ∙ sym (cut_twice (bit_and x y) n w less)

pub or_is : (s x y w n : ℕ) → n ≤ w → s ≡ bit_or (x % 256 ^ n) (y % 256 ^ n) → s ≡ bit_or x y % 256 ^ w % 256 ^ n
or_is s x y w n less h =
    h
    ∙ ap (λ p. bit_or (x % p) (y % p)) (bits n)
    ∙ sym (or_mod x y (8 * n))
    ∙ sym (ap (λ p. bit_or x y % p) (bits n))
    ∙ sym (cut_twice (bit_or x y) n w less)

pub xor_is : (s x y w n : ℕ) → n ≤ w → s ≡ bit_xor (x % 256 ^ n) (y % 256 ^ n) → s ≡ bit_xor x y % 256 ^ w % 256 ^ n
xor_is s x y w n less h =
    h
    ∙ ap (λ p. bit_xor (x % p) (y % p)) (bits n)
    ∙ sym (xor_mod x y (8 * n))
    ∙ sym (ap (λ p. bit_xor x y % p) (bits n))
    ∙ sym (cut_twice (bit_xor x y) n w less)
