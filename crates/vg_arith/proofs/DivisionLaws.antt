-- The arithmetic of the routine of division: what one step of it does, and what quotient and remainder of signed numbers are by those of
-- their magnitudes. The steps keep a record of numbers that add up to the dividend; the signs are four cases.
use Rattle.std.specs.Prelude.{ℕ, zero, suc, ◌+◌, ◌-◌, ◌*◌, ◌/◌, ◌%◌, ◌^◌, ◌<◌, ◌≤◌, Bool, true, false, not, nat_lt, nat_le, Some, if◌then◌else◌}
use Rattle.std.specs.Prelude.{ℤ, pos, negsuc, neg_ℤ, int_lt, int_div, int_rem}
use Rattle.std.specs.Int.{w32, cast_unsigned, cast_signed, int_wrapping_div}
use Rattle.std.proofs.Common.{◌≡◌, refl, sym, ap, ◌∙◌, subst, arith}
use Rattle.std.proofs.Math.Nat.{mul-le-mul_right, div-le_self, mod-le}
use Rattle.std.proofs.Math.Arith.{digits_mod}
use Rattle.std.proofs.lemmas.Nat.{div-mul-add}
use Rattle.std.proofs.lemmas.Int.{of_z-to_z}
use Rattle.vg_lin.specs.declared.instr.Operator.TheVariants.{Divide, Remainder}
use Rattle.vg_lin.specs.Values.{low, signed, divided, computed, shifted_remainder, shifted_dividend, next_remainder, next_dividend}
use Rattle.vg_arith.proofs.ShiftRoutines.{some_is, low_same}

-- ---- steps

-- After some steps: P is 2 to their number, M 2 to the number of those to come. The dividend has the quotient so far below the bits
-- that are to come, and the remainder is that of the bits that have come.
pub record Divides (dividend v P M r d : ℕ) : Type 0 where
  pub bits : ℕ
  pub q : ℕ
  pub all : M * P ≡ 2 ^ 32
  pub held : d ≡ bits * P + q
  pub quotient : q < P
  pub rest : bits < M
  pub remainder : r < v
  pub whole : (q * v + r) * M + bits ≡ dividend

shifted : (r d b e : ℕ) → b < 2 → d ≡ b * 2 ^ 31 + e → e < 2 ^ 31 → r < 2 ^ 31 → (shifted_remainder r d ≡ 2 * r + b) × (shifted_dividend d ≡ 2 * e)
shifted r d b e hb hd he hr = (omega (arith, hd), omega (arith, hd))

next_whole : (q v r s M m b c n : ℕ) → s + c * v ≡ 2 * r + b → (q * v + r) * (2 * M) + (b * M + m) ≡ n → ((2 * q + c) * v + s) * M + m ≡ n
next_whole q v r s M m b c n h g = let e : (s + c * v) * M ≡ (2 * r + b) * M = ap (λ z. z * M) h in omega (arith, e, g)

-- one step, whose bit of the dividend is b
module _ (n v P M r d bits q : ℕ) (all : 2 * M * P ≡ 2 ^ 32) (held : d ≡ bits * P + q) (quotient : q < P) (remainder : r < v) (small : v ≤ 2 ^ 31)
    (whole : (q * v + r) * (2 * M) + bits ≡ n) (b m : ℕ) (is_bit : b < 2) (split : bits ≡ b * M + m) (rest : m < M) where
  half : M * P ≡ 2 ^ 31
  half = omega (arith, all)

  below : m * P + q < 2 ^ 31
  below = let e : suc m * P ≤ M * P = mul-le-mul_right P rest in omega (arith, e, half)

  dividend_is : d ≡ b * 2 ^ 31 + (m * P + q)
  dividend_is =
      let e : bits * P ≡ (b * M + m) * P = ap (λ z. z * P) split in
      let f : b * (M * P) ≡ b * 2 ^ 31 = ap (λ z. b * z) half in omega (arith, held, e, f)

  stepped : (shifted_remainder r d ≡ 2 * r + b) × (shifted_dividend d ≡ 2 * (m * P + q))
  stepped = shifted r d b (m * P + q) is_bit dividend_is below (omega arith)

  whole_is : (q * v + r) * (2 * M) + (b * M + m) ≡ n
  whole_is = omega (arith, whole, split)

  -- what the step makes of both numbers, by whether the divisor is taken away
  next : (t : Bool) → nat_le v (2 * r + b) ≡ t
      → Divides n v (2 * P) M (if t then 2 * r + b - v else 2 * r + b) (if t then suc (2 * (m * P + q)) else 2 * (m * P + q))
      → Divides n v (2 * P) M (next_remainder r d v) (next_dividend r d v)
  next t e h =
      subst (λ z. Divides n v (2 * P) M (if nat_le v z then z - v else z) (if nat_le v z then suc (shifted_dividend d) else shifted_dividend d))
      (sym (stepped.0))
      (subst (λ z. Divides n v (2 * P) M (remainder_by (nat_le v (2 * r + b))) (if nat_le v (2 * r + b) then suc z else z)) (sym (stepped.1))
      (subst (λ t. Divides n v (2 * P) M (remainder_by t) (if t then suc (2 * (m * P + q)) else 2 * (m * P + q))) (sym e) h))
    where
      remainder_by : Bool → ℕ
      remainder_by t = if t then 2 * r + b - v else 2 * r + b

  by_test : (t : Bool) → nat_le v (2 * r + b) ≡ t → Divides n v (2 * P) M (next_remainder r d v) (next_dividend r d v)
  by_test true e =
      next true e
      record {
        bits = m;
        q = 2 * q + 1;
        all = omega (arith, all);
        held = omega arith;
        quotient = omega arith;
        rest = rest;
        remainder = omega arith;
        whole = next_whole q v r (2 * r + b - v) M m b 1 n (taken e) whole_is;
      }
    where
      taken : nat_le v (2 * r + b) ≡ true → 2 * r + b - v + 1 * v ≡ 2 * r + b
      taken e = grind arith
  by_test false e =
      next false e
      record {
        bits = m;
        q = 2 * q;
        all = omega (arith, all);
        held = omega arith;
        quotient = omega arith;
        rest = rest;
        remainder = left e;
        whole = subst (λ z. (z * v + (2 * r + b)) * M + m ≡ n) (plain q) (next_whole q v r (2 * r + b) M m b 0 n (omega arith) whole_is);
      }
    where
      left : nat_le v (2 * r + b) ≡ false → 2 * r + b < v
      left e = grind arith

      plain : (q : ℕ) → 2 * q + 0 ≡ 2 * q
      plain q = omega arith

pub divides_on : (n v P M r d : ℕ) → v ≤ 2 ^ 31 → Divides n v P (2 * M) r d → Divides n v (2 * P) M (next_remainder r d v) (next_dividend r d v)
divides_on n v P M r d small f = by_bit (nat_lt f.bits M) refl
  where
    by_bit : (t : Bool) → nat_lt f.bits M ≡ t → Divides n v (2 * P) M (next_remainder r d v) (next_dividend r d v)
    by_bit true e =
        by_test n v P M r d f.bits f.q f.all f.held f.quotient f.remainder small f.whole 0 f.bits (omega arith) (omega arith) (is_below e)
        (nat_le v (2 * r + 0)) refl
      where
        is_below : nat_lt f.bits M ≡ true → f.bits < M
        is_below e = grind arith
    by_bit false e = by_test n v P M r d f.bits f.q f.all f.held f.quotient f.remainder small f.whole 1 (f.bits - M) (omega arith)
        (omega (arith, not_below e)) (omega (arith, not_below e, f.rest)) (nat_le v (2 * r + 1)) refl
      where
        not_below : nat_lt f.bits M ≡ false → M ≤ f.bits
        not_below e = grind arith

-- both numbers have four bytes
pub divides_fits : (n v P M r d : ℕ) → v ≤ 2 ^ 31 → Divides n v P M r d → (low 4 r ≡ r) × (low 4 d ≡ d)
divides_fits n v P M r d small f = (
  low_same r (omega (arith, f.remainder)),
  low_same d (let e : suc f.bits * P ≡ f.bits * P + P = omega arith in
      let g : suc f.bits * P ≤ M * P = mul-le-mul_right P f.rest in omega (arith, e, g, f.all, f.held, f.quotient)),
)

-- before the first step
pub divides_first : (n v : ℕ) → n < 2 ^ 32 → 0 < v → Divides n v 1 (2 ^ 32) 0 n
divides_first n v h some =
    record {
      bits = n;
      q = 0;
      all = omega arith;
      held = omega arith;
      quotient = omega arith;
      rest = h;
      remainder = some;
      whole = omega arith;
    }

-- behind the last step
pub divides_last : (n v P r d : ℕ) → Divides n v P 1 r d → (d ≡ n / v) × (r ≡ n % v)
divides_last n v P r d f =
    (is_q ∙ sym (div-mul-add f.q v r f.remainder) ∙ ap (λ z. z / v) sum, sym (digits_mod f.q f.remainder) ∙ ap (λ z. z % v) sum)
  where
    is_q : d ≡ f.q
    is_q = let e : f.bits * P ≡ 0 * P = ap (λ z. z * P) (none f.bits f.rest) in omega (arith, f.held, e)
      where
        none : (k : ℕ) → k < 1 → k ≡ 0
        none k h = omega (arith, h)

    sum : f.q * v + r ≡ n
    sum = omega (arith, f.whole, f.rest)

-- ---- signs

-- A number of four bytes is negative where this is false.
abbrev pub is_positive : ℕ → Bool
is_positive x = nat_lt (2 * x) (2 ^ 32)

abbrev pub magnitude : Bool → ℕ → ℕ
magnitude true x = x
magnitude false x = 2 ^ 32 - x

-- what the routine does to a number that gets the other sign
abbrev pub turned : ℕ → ℕ
turned n = low 4 (low 4 (0 + (256 ^ 4 - low 4 n)))

abbrev pub with_sign : Bool → ℕ → ℕ
with_sign true n = n
with_sign false n = turned n

-- the sign of a quotient
abbrev pub same : Bool → Bool → Bool
same true b = b
same false b = not b

abbrev by_sign : Bool → ℕ → ℤ
by_sign true x = pos x
by_sign false x = negsuc (2 ^ 32 - 1 - x)

pub turned_is : (x : ℕ) → x < 2 ^ 32 → 0 < x → turned x ≡ 2 ^ 32 - x
turned_is x h g = omega arith

pub magnitude_small : (b : Bool) (x : ℕ) → x < 2 ^ 32 → is_positive x ≡ b → magnitude b x ≤ 2 ^ 31
magnitude_small true x h e = grind arith
magnitude_small false x h e = grind arith

pub magnitude_some : (b : Bool) (x : ℕ) → x < 2 ^ 32 → 0 < x → 0 < magnitude b x
magnitude_some true x h g = g
magnitude_some false x h g = omega (arith, h)

pub negative_some : (x : ℕ) → is_positive x ≡ false → 0 < x
negative_some x e = grind arith

pub signed_is : (b : Bool) (x : ℕ) → x < 2 ^ 32 → is_positive x ≡ b → signed 4 x ≡ by_sign b x
signed_is b x h e = ap (λ z. if nat_lt (2 * z) (2 ^ 32) then pos z else negsuc (2 ^ 32 - 1 - z)) (low_same x h) ∙ chosen b e
  where
    chosen : (b : Bool) → is_positive x ≡ b → (if nat_lt (2 * x) (2 ^ 32) then pos x else negsuc (2 ^ 32 - 1 - x)) ≡ by_sign b x
    chosen true e = ap (λ t. if t then pos x else negsuc (2 ^ 32 - 1 - x)) e
    chosen false e = ap (λ t. if t then pos x else negsuc (2 ^ 32 - 1 - x)) e

pub sign_test : (b : Bool) (x : ℕ) → x < 2 ^ 32 → is_positive x ≡ b → int_lt (signed 4 x) (pos 0) ≡ not b
sign_test true x h e = ap (λ z. int_lt z (pos 0)) (signed_is true x h e) ∙ none x
  where
    none : (x : ℕ) → int_lt (pos x) (pos 0) ≡ false
    none x = grind arith
sign_test false x h e = ap (λ z. int_lt z (pos 0)) (signed_is false x h e)

abbrev of_sign : Bool → ℕ → ℤ
of_sign true n = pos n
of_sign false n = neg_ℤ (pos n)

bits_small : (b : Bool) (n : ℕ) → n < 2 ^ 32 → cast_unsigned w32 (of_sign b n) < 2 ^ 32
bits_small true n h = h
bits_small false zero h = omega arith
bits_small false (suc k) h = omega arith

-- the bits of a number of either sign
bits_of : (b : Bool) (n : ℕ) → n < 2 ^ 32 → low 4 (cast_unsigned w32 (of_sign b n)) ≡ with_sign b n
bits_of true n h = low_same n h
bits_of false zero h = refl
bits_of false (suc k) h = omega arith

suc_rest : (x : ℕ) → x < 2 ^ 32 → suc (2 ^ 32 - 1 - x) ≡ 2 ^ 32 - x
suc_rest x h = omega arith

quotient_is : (a b : Bool) (x y : ℕ) → x < 2 ^ 32 → y < 2 ^ 32
    → int_div (by_sign a x) (by_sign b y) ≡ of_sign (same a b) (magnitude a x / magnitude b y)
quotient_is true true x y hx hy = refl
quotient_is true false x y hx hy = ap (λ z. neg_ℤ (pos (x / z))) (suc_rest y hy)
quotient_is false true x y hx hy = ap (λ z. neg_ℤ (pos (z / y))) (suc_rest x hx)
quotient_is false false x y hx hy = ap (λ z. pos (z / suc (2 ^ 32 - 1 - y))) (suc_rest x hx) ∙ ap (λ z. pos ((2 ^ 32 - x) / z)) (suc_rest y hy)

remainder_is : (a b : Bool) (x y : ℕ) → x < 2 ^ 32 → y < 2 ^ 32 → int_rem (by_sign a x) (by_sign b y) ≡ of_sign a (magnitude a x % magnitude b y)
remainder_is true true x y hx hy = refl
remainder_is true false x y hx hy = ap (λ z. pos (x % z)) (suc_rest y hy)
remainder_is false true x y hx hy = ap (λ z. neg_ℤ (pos (z % y))) (suc_rest x hx)
remainder_is false false x y hx hy =
    ap (λ z. neg_ℤ (pos (z % suc (2 ^ 32 - 1 - y)))) (suc_rest x hx) ∙ ap (λ z. neg_ℤ (pos ((2 ^ 32 - x) % z))) (suc_rest y hy)

divided_is : (y v : ℕ) (z : ℤ) → divided 4 y z ≡ Some v → (0 < y) × (low 4 (cast_unsigned w32 z) ≡ v)
divided_is zero v z e = absurd (grind arith)
divided_is (suc k) v z e = (omega arith, some_is _ v e)

pub magnitude_below : (b : Bool) (x : ℕ) → x < 2 ^ 32 → is_positive x ≡ b → magnitude b x < 2 ^ 32
magnitude_below b x h e = let g = magnitude_small b x h e in omega (arith, g)

-- what the operators compute, by the signs of both operands
pub divides : (a b : Bool) (x y v : ℕ) → x < 2 ^ 32 → y < 2 ^ 32 → is_positive x ≡ a → is_positive y ≡ b → computed Divide 4 x y ≡ Some v
    → (0 < y) × (with_sign (same a b) (magnitude a x / magnitude b y) ≡ v)
divides a b x y v hx hy ha hb e = (subst (λ z. 0 < z) (low_same y hy) is.0, sym result ∙ is.1)
  where
    n : ℕ
    n = magnitude a x / magnitude b y

    small : n < 2 ^ 32
    small = let g = magnitude_below a x hx ha in let h = div-le_self (magnitude a x) (magnitude b y) in omega (arith, g, h)

    is : (0 < low 4 y) × (low 4 (cast_unsigned w32 (int_wrapping_div w32 (signed 4 x) (signed 4 y))) ≡ v)
    is = divided_is (low 4 y) v _ e

    result : low 4 (cast_unsigned w32 (int_wrapping_div w32 (signed 4 x) (signed 4 y))) ≡ with_sign (same a b) n
    result =
        ap (λ z. low 4 (cast_unsigned w32 (int_wrapping_div w32 z (signed 4 y)))) (signed_is a x hx ha)
        ∙ ap (λ z. low 4 (cast_unsigned w32 (int_wrapping_div w32 (by_sign a x) z))) (signed_is b y hy hb)
        ∙ ap (λ z. low 4 (cast_unsigned w32 (cast_signed w32 (cast_unsigned w32 z)))) (quotient_is a b x y hx hy)
        ∙ ap (low 4) (of_z-to_z w32 (cast_unsigned w32 (of_sign (same a b) n)) (bits_small (same a b) n small)) ∙ bits_of (same a b) n small

pub leaves : (a b : Bool) (x y v : ℕ) → x < 2 ^ 32 → y < 2 ^ 32 → is_positive x ≡ a → is_positive y ≡ b → computed Remainder 4 x y ≡ Some v
    → (0 < y) × (with_sign a (magnitude a x % magnitude b y) ≡ v)
leaves a b x y v hx hy ha hb e = (subst (λ z. 0 < z) (low_same y hy) is.0, sym result ∙ is.1)
  where
    n : ℕ
    n = magnitude a x % magnitude b y

    small : n < 2 ^ 32
    small = let g = magnitude_below a x hx ha in let h = mod-le (magnitude a x) (magnitude b y) in omega (arith, g, h)

    is : (0 < low 4 y) × (low 4 (cast_unsigned w32 (int_rem (signed 4 x) (signed 4 y))) ≡ v)
    is = divided_is (low 4 y) v _ e

    result : low 4 (cast_unsigned w32 (int_rem (signed 4 x) (signed 4 y))) ≡ with_sign a n
    result =
        ap (λ z. low 4 (cast_unsigned w32 (int_rem z (signed 4 y)))) (signed_is a x hx ha)
        ∙ ap (λ z. low 4 (cast_unsigned w32 (int_rem (by_sign a x) z))) (signed_is b y hy hb)
        ∙ ap (λ z. low 4 (cast_unsigned w32 z)) (remainder_is a b x y hx hy) ∙ bits_of a n small

-- ---- the byte of the sign

-- the highest byte of a number
abbrev pub high : ℕ → ℕ
high x = low 1 (x / 2 ^ 24)

-- the byte with its highest bit turned, unless a sign says that nothing is
abbrev pub turned_by : Bool → ℕ → ℕ
turned_by true n = n
turned_by false n = low 1 (low 1 (n + 0x80))

-- such a byte, and whether it stands for a number that is not negative
abbrev pub Tells : ℕ → Bool → Type 0
Tells n a = (n < 256) × (nat_lt (2 * n) 256 ≡ a)

pub high_tells : (b : Bool) (x : ℕ) → x < 2 ^ 32 → is_positive x ≡ b → Tells (high x) b
high_tells true x h e = (omega arith, positive x h e)
  where
    positive : (x : ℕ) → x < 2 ^ 32 → is_positive x ≡ true → nat_lt (2 * high x) 256 ≡ true
    positive x h e = grind arith
high_tells false x h e = (omega arith, negative x h e)
  where
    negative : (x : ℕ) → x < 2 ^ 32 → is_positive x ≡ false → nat_lt (2 * high x) 256 ≡ false
    negative x h e = grind arith

pub turned_tells : (a b : Bool) (n : ℕ) → Tells n a → Tells (turned_by b n) (same a b)
turned_tells true true n t = t
turned_tells false true n t = t
turned_tells true false n (h, e) = (omega arith, turns n h e)
  where
    turns : (n : ℕ) → n < 256 → nat_lt (2 * n) 256 ≡ true → nat_lt (2 * low 1 (low 1 (n + 0x80))) 256 ≡ false
    turns n h e = grind arith
turned_tells false false n (h, e) = (omega arith, turns n h e)
  where
    turns : (n : ℕ) → n < 256 → nat_lt (2 * n) 256 ≡ false → nat_lt (2 * low 1 (low 1 (n + 0x80))) 256 ≡ true
    turns n h e = grind arith

-- what the test of such a byte says
pub byte_test : (a : Bool) (n : ℕ) → Tells n a → int_lt (signed 1 n) (pos 0) ≡ not a
byte_test a n (h, e) = ap (λ z. int_lt (if nat_lt (2 * z) 256 then pos z else negsuc (255 - z)) (pos 0)) (low_byte n h) ∙ by a e
  where
    low_byte : (n : ℕ) → n < 256 → low 1 n ≡ n
    low_byte n h = omega arith

    none : (n : ℕ) → int_lt (pos n) (pos 0) ≡ false
    none n = grind arith

    by : (a : Bool) → nat_lt (2 * n) 256 ≡ a → int_lt (if nat_lt (2 * n) 256 then pos n else negsuc (255 - n)) (pos 0) ≡ not a
    by true e = ap (λ t. int_lt (if t then pos n else negsuc (255 - n)) (pos 0)) e ∙ none n
    by false e = ap (λ t. int_lt (if t then pos n else negsuc (255 - n)) (pos 0)) e

-- ---- both see four bytes of their operands

twice : (x : ℕ) → low 4 (low 4 x) ≡ low 4 x
twice x = omega arith

-- the signed number of these four bytes
abbrev signed_low : ℕ → ℤ
signed_low z = if nat_lt (2 * z) (2 ^ 32) then pos z else negsuc (2 ^ 32 - 1 - z)

pub divide_low : (x y : ℕ) → computed Divide 4 (low 4 x) (low 4 y) ≡ computed Divide 4 x y
divide_low x y =
    ap (λ z. divided 4 (low 4 (low 4 y)) (int_wrapping_div w32 (signed_low z) (signed_low (low 4 (low 4 y))))) (twice x)
    ∙ ap (λ z. divided 4 z (int_wrapping_div w32 (signed 4 x) (signed_low z))) (twice y)

pub leave_low : (x y : ℕ) → computed Remainder 4 (low 4 x) (low 4 y) ≡ computed Remainder 4 x y
leave_low x y =
    ap (λ z. divided 4 (low 4 (low 4 y)) (int_rem (signed_low z) (signed_low (low 4 (low 4 y))))) (twice x)
    ∙ ap (λ z. divided 4 z (int_rem (signed 4 x) (signed_low z))) (twice y)
