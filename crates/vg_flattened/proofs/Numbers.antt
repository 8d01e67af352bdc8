-- What the packed program and linear code compute of numbers of four bytes is the same.
use Rattle.std.specs.Prelude.{ℕ, zero, suc, ◌+◌, ◌-◌, ◌*◌, ◌/◌, ◌%◌, ◌^◌, ◌<◌, ◌≤◌, Bool, true, false, not, ◌==◌, ◌&&◌, nat_lt, nat_le, Some}
use Rattle.std.specs.Prelude.{ℤ, pos, negsuc, neg_ℤ, int_lt, int_le, int_div, int_rem, if◌then◌else◌}
use Rattle.std.specs.Int.{w32, cast_unsigned, cast_signed, int_wrapping_add, int_wrapping_sub, int_wrapping_mul, int_wrapping_neg, int_wrapping_div}
use Rattle.std.proofs.Common.{◌≡◌, refl, sym, ap, ◌∙◌, subst, arith, pow-suc}
use Rattle.std.proofs.Math.Nat.{div-le_self, mod-le, mod-eq_of_lt, lt_of_lt_of_le}
use Rattle.std.proofs.lemmas.Int.{of_z-to_z}
use Rattle.vg_codes.specs.Dispatch.{is_within}
use Rattle.vg_firm.specs.declared.step.Order.TheVariants.{Signed, Unsigned}
use Rattle.vg_firm.specs.Operators.{on_ints, is_less, is_at_most, shifted}
use Rattle.vg_lin.specs.declared.instr.Comparison.TheVariants.{Below, Less, Same}
use Rattle.vg_lin.specs.Values.{low, signed, compared, divided}

pub low_same : (x : ℕ) → x < 2 ^ 32 → low 4 x ≡ x
low_same x h = omega arith

-- the same of two bytes
pub low_two : (x : ℕ) → x < 65536 → low 2 x ≡ x
low_two x h = omega arith

pub low_small : (x : ℕ) → low 4 x < 2 ^ 32
low_small x = omega arith

wraps : (n : ℕ) → cast_unsigned w32 (cast_signed w32 (n % 2 ^ 32)) ≡ low 4 n
wraps n = of_z-to_z w32 (n % 2 ^ 32) (omega arith)

pub sum_same : (x y : ℕ) → x < 2 ^ 32 → y < 2 ^ 32 → on_ints (int_wrapping_add w32) x y ≡ low 4 (x + y)
sum_same x y h g =
    wraps (cast_unsigned w32 (cast_signed w32 x) + cast_unsigned w32 (cast_signed w32 y))
    ∙ ap (λ a. low 4 (a + cast_unsigned w32 (cast_signed w32 y))) (of_z-to_z w32 x h) ∙ ap (λ b. low 4 (x + b)) (of_z-to_z w32 y g)

pub difference_same : (x y : ℕ) → x < 2 ^ 32 → y < 2 ^ 32 → on_ints (int_wrapping_sub w32) x y ≡ low 4 (x + (256 ^ 4 - low 4 y))
difference_same x y h g =
    wraps (cast_unsigned w32 (cast_signed w32 x) + (2 ^ 32 - cast_unsigned w32 (cast_signed w32 y)))
    ∙ ap (λ a. low 4 (a + (2 ^ 32 - cast_unsigned w32 (cast_signed w32 y)))) (of_z-to_z w32 x h)
    ∙ ap (λ b. low 4 (x + (2 ^ 32 - b))) (of_z-to_z w32 y g ∙ sym (low_same y g))

pub product_same : (x y : ℕ) → x < 2 ^ 32 → y < 2 ^ 32 → on_ints (int_wrapping_mul w32) x y ≡ low 4 (x * y)
product_same x y h g =
    wraps (cast_unsigned w32 (cast_signed w32 x) * cast_unsigned w32 (cast_signed w32 y))
    ∙ ap (λ a. low 4 (a * cast_unsigned w32 (cast_signed w32 y))) (of_z-to_z w32 x h) ∙ ap (λ b. low 4 (x * b)) (of_z-to_z w32 y g)

pub opposite_same : (x : ℕ) → x < 2 ^ 32 → cast_unsigned w32 (int_wrapping_neg w32 (cast_signed w32 x)) ≡ low 4 (0 + (256 ^ 4 - low 4 x))
opposite_same x h =
    wraps (2 ^ 32 - cast_unsigned w32 (cast_signed w32 x)) ∙ ap (λ b. low 4 (2 ^ 32 - b)) (of_z-to_z w32 x h ∙ sym (low_same x h))
    ∙ from_zero (256 ^ 4 - low 4 x)
  where
    from_zero : (n : ℕ) → low 4 n ≡ low 4 (0 + n)
    from_zero n = omega arith

pub signed_same : (x : ℕ) → x < 2 ^ 32 → signed 4 x ≡ cast_signed w32 x
signed_same x h = by_sign (nat_lt (2 * low 4 x) (256 ^ 4)) (nat_lt x (2 ^ 31)) refl refl
  where
    by_sign : (b c : Bool) → nat_lt (2 * low 4 x) (256 ^ 4) ≡ b → nat_lt x (2 ^ 31) ≡ c
        → (if nat_lt (2 * low 4 x) (256 ^ 4) then pos (low 4 x) else negsuc (256 ^ 4 - 1 - low 4 x)) ≡ cast_signed w32 x
    by_sign b c e d = grind arith

pub less_same : (x y : ℕ) → x < 2 ^ 32 → y < 2 ^ 32 → compared Less 4 x y ≡ is_less Signed x y
less_same x y h g = ap (λ a. int_lt a (signed 4 y)) (signed_same x h) ∙ ap (λ b. int_lt (cast_signed w32 x) b) (signed_same y g)

pub below_same : (x y : ℕ) → x < 2 ^ 32 → y < 2 ^ 32 → compared Below 4 x y ≡ is_less Unsigned x y
below_same x y h g = ap (λ a. nat_lt a (low 4 y)) (low_same x h) ∙ ap (λ b. nat_lt x b) (low_same y g)

pub same_same : (x y : ℕ) → x < 2 ^ 32 → y < 2 ^ 32 → compared Same 4 x y ≡ (x == y)
same_same x y h g = ap (λ a. a == low 4 y) (low_same x h) ∙ ap (λ b. x == b) (low_same y g)

pub at_most_signed : (x y : ℕ) → x < 2 ^ 32 → y < 2 ^ 32 → not (compared Less 4 y x) ≡ is_at_most Signed x y
at_most_signed x y h g = ap not (less_same y x g h) ∙ le_of (cast_signed w32 x) (cast_signed w32 y)
  where
    le_nat : (m n : ℕ) → not (nat_lt n m) ≡ nat_le m n
    le_nat m n = grind arith

    le_of : (a b : ℤ) → not (int_lt b a) ≡ int_le a b
    le_of (pos m) (pos n) = le_nat m n
    le_of (pos m) (negsuc n) = refl
    le_of (negsuc m) (pos n) = refl
    le_of (negsuc m) (negsuc n) = le_nat n m

pub at_most_unsigned : (x y : ℕ) → x < 2 ^ 32 → y < 2 ^ 32 → not (compared Below 4 y x) ≡ is_at_most Unsigned x y
at_most_unsigned x y h g = ap not (below_same y x g h) ∙ le_of
  where
    le_of : not (nat_lt y x) ≡ nat_le x y
    le_of = grind arith

-- ---- bytes and bits

pub bytes_bits : (width : ℕ) → width ≤ 4 → 256 ^ width ≡ 2 ^ (8 * width)
bytes_bits zero le = refl
bytes_bits (suc zero) le = refl
bytes_bits (suc (suc zero)) le = refl
bytes_bits (suc (suc (suc zero))) le = refl
bytes_bits (suc (suc (suc (suc zero)))) le = refl
bytes_bits (suc (suc (suc (suc (suc w))))) le = absurd (omega (arith, le))

-- a number of so many bytes has no more in as many, or more
pub low_within : (n u x : ℕ) → n ≤ u → x < 256 ^ n → low u x ≡ x
low_within n u x le lt = mod-eq_of_lt (lt_of_lt_of_le lt (powers n u le))
  where
    powers : (a b : ℕ) → a ≤ b → 256 ^ a ≤ 256 ^ b
    powers zero b l = pow-pos b
      where
        pow-pos : (c : ℕ) → 1 ≤ 256 ^ c
        pow-pos zero = omega arith
        pow-pos (suc c) = let h = pow-pos c in omega (arith, h, pow-suc 256 c)
    powers (suc a) zero l = absurd (omega (arith, l))
    powers (suc a) (suc b) l = let h = powers a b (omega (arith, l)) in omega (arith, h, pow-suc 256 a, pow-suc 256 b)

-- ---- divisions

-- A number in two's complement of four bytes.
abbrev IsSmall : ℤ → Type 0
IsSmall (pos n) = n < 2 ^ 32
IsSmall (negsuc n) = suc n < 2 ^ 32

signed_small : (x : ℕ) → x < 2 ^ 32 → IsSmall (cast_signed w32 x)
signed_small x h = subst IsSmall (signed_same x h) (by_sign (nat_lt (2 * low 4 x) (256 ^ 4)) refl)
  where
    by_sign : (b : Bool) → nat_lt (2 * low 4 x) (256 ^ 4) ≡ b → IsSmall (if b then pos (low 4 x) else negsuc (256 ^ 4 - 1 - low 4 x))
    by_sign true e = low_small x
    by_sign false e = let ge : 256 ^ 4 ≤ 2 * low 4 x = grind arith in omega (arith, ge)

opposite_small : (n : ℕ) → cast_unsigned w32 (neg_ℤ (pos n)) < 2 ^ 32
opposite_small zero = omega arith
opposite_small (suc n) = omega arith

quotient_small : (a b : ℤ) → IsSmall a → cast_unsigned w32 (int_div a b) < 2 ^ 32
quotient_small (pos m) (pos n) h = let le = div-le_self m n in omega (arith, le, h)
quotient_small (pos m) (negsuc n) h = opposite_small (m / suc n)
quotient_small (negsuc m) (pos n) h = opposite_small (suc m / n)
quotient_small (negsuc m) (negsuc n) h = let le = div-le_self (suc m) (suc n) in omega (arith, le, h)

remainder_small : (a b : ℤ) → IsSmall a → cast_unsigned w32 (int_rem a b) < 2 ^ 32
remainder_small (pos m) (pos n) h = let le = mod-le m n in omega (arith, le, h)
remainder_small (pos m) (negsuc n) h = let le = mod-le m (suc n) in omega (arith, le, h)
remainder_small (negsuc m) (pos n) h = opposite_small (suc m % n)
remainder_small (negsuc m) (negsuc n) h = opposite_small (suc m % suc n)

-- what linear code divides is what the packed program divides
divided_same : (go : ℤ → ℤ → ℤ) (x n : ℕ) → x < 2 ^ 32 → suc n < 2 ^ 32 → on_ints go x (suc n) < 2 ^ 32
    → divided 4 (low 4 (suc n)) (go (signed 4 x) (signed 4 (suc n))) ≡ Some (on_ints go x (suc n))
divided_same go x n h g small =
    ap (λ z. divided 4 z (go (signed 4 x) (signed 4 (suc n)))) (low_same (suc n) g)
    ∙ ap (λ z. Some (low 4 (cast_unsigned w32 (go z (signed 4 (suc n)))))) (signed_same x h)
    ∙ ap (λ z. Some (low 4 (cast_unsigned w32 (go (cast_signed w32 x) z)))) (signed_same (suc n) g)
    ∙ ap Some (low_same (on_ints go x (suc n)) small)

pub quotient_below : (x y : ℕ) → x < 2 ^ 32 → on_ints (int_wrapping_div w32) x y < 2 ^ 32
quotient_below x y h =
    let small = quotient_small (cast_signed w32 x) (cast_signed w32 y) (signed_small x h) in
    subst (λ z. z < 2 ^ 32) (sym (of_z-to_z w32 (cast_unsigned w32 (int_div (cast_signed w32 x) (cast_signed w32 y))) small)) small

pub remainder_below : (x y : ℕ) → x < 2 ^ 32 → on_ints int_rem x y < 2 ^ 32
remainder_below x y h = remainder_small (cast_signed w32 x) (cast_signed w32 y) (signed_small x h)

pub quotient_same : (x n : ℕ) → x < 2 ^ 32 → suc n < 2 ^ 32
    → divided 4 (low 4 (suc n)) (int_wrapping_div w32 (signed 4 x) (signed 4 (suc n))) ≡ Some (on_ints (int_wrapping_div w32) x (suc n))
quotient_same x n h g = divided_same (int_wrapping_div w32) x n h g (quotient_below x (suc n) h)

pub remainder_same : (x n : ℕ) → x < 2 ^ 32 → suc n < 2 ^ 32
    → divided 4 (low 4 (suc n)) (int_rem (signed 4 x) (signed 4 (suc n))) ≡ Some (on_ints int_rem x (suc n))
remainder_same x n h g = divided_same int_rem x n h g (remainder_below x (suc n) h)

-- ---- shifts

-- A shift by an int that is not below all bits leaves nothing.
pub shifted_is : (y k : ℕ) (go : ℕ → ℕ) → y < 2 ^ 32 → k ≤ 32 → shifted (cast_signed w32 y) k go ≡ (if nat_lt y k then go y else 0)
shifted_is y k go h le = ap (λ z. shifted z k go) (sym (signed_same y h)) ∙ by_sign (nat_lt (2 * low 4 y) (256 ^ 4)) refl
  where
    is_not : (m n : ℕ) → n ≤ m → nat_lt m n ≡ false
    is_not m n l = grind arith

    by_sign : (b : Bool) → nat_lt (2 * low 4 y) (256 ^ 4) ≡ b
        → shifted (if b then pos (low 4 y) else negsuc (256 ^ 4 - 1 - low 4 y)) k go ≡ (if nat_lt y k then go y else 0)
    by_sign true e = ap (λ z. if nat_lt z k then go z else 0) (low_same y h)
    by_sign false e =
        let ge : 256 ^ 4 ≤ 2 * low 4 y = grind arith in
        let same = low_same y h in
        ap (λ b. if b then go y else 0) (sym (is_not y k (omega (arith, ge, le, same))))

-- ---- numbers side by side

-- A number is one of so many from the first on where its distance from that is below their count.
pub near_same : (n first count : ℕ) → n < 2 ^ 32 → first + count < 2 ^ 32
    → compared Below 4 (low 4 (n + (256 ^ 4 - low 4 first))) count ≡ is_within first count n
near_same n first count h g = by_first (nat_le first n) refl
  where
    behind : (a b c : ℕ) → a ≤ c → nat_lt (c - a) b ≡ nat_lt c (a + b)
    behind a b c l = grind arith

    is_not : (a b : ℕ) → b ≤ a → nat_lt a b ≡ false
    is_not a b l = grind arith

    up_to : first ≤ n → low 4 (low 4 (n + (256 ^ 4 - low 4 first))) ≡ n - first
    up_to le = omega (arith, le, h, g)

    around : n < first → low 4 (low 4 (n + (256 ^ 4 - low 4 first))) ≡ 2 ^ 32 + n - first
    around lt = omega (arith, lt, h, g)

    by_first : (b : Bool) → nat_le first n ≡ b → compared Below 4 (low 4 (n + (256 ^ 4 - low 4 first))) count ≡ (b && nat_lt n (first + count))
    by_first true e =
        let le : first ≤ n = grind arith in
        ap (λ z. nat_lt z (low 4 count)) (up_to le) ∙ ap (λ z. nat_lt (n - first) z) (low_same count (omega (arith, g))) ∙ behind first count n le
    by_first false e =
        let lt : n < first = grind arith in
        ap (λ z. nat_lt z (low 4 count)) (around lt) ∙ ap (λ z. nat_lt (2 ^ 32 + n - first) z) (low_same count (omega (arith, g)))
        ∙ is_not (2 ^ 32 + n - first) count (omega (arith, g, h))
