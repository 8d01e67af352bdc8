-- Strings of bits on both sides: the bytes that hold them, what is kept of them, and the opposite of their bits.
use Rattle.std.specs.Prelude.{ℕ, ◌+◌, ◌-◌, ◌*◌, ◌/◌, ◌%◌, ◌^◌, ◌<◌, ◌≤◌, Bool, true, false, ◌&&◌, nat_lt, nat_le, bit_and, Some, if◌then◌else◌}
use Rattle.std.proofs.Common.{◌≡◌, refl, sym, ap, ◌∙◌, subst, arith}
use Rattle.std.proofs.lemmas.Nat.{pow_pos, and_mask, mod_below}
use Rattle.std.proofs.Math.Nat.{mod-eq_of_lt, div-eq_of_lt, lt_of_lt_of_le, add-mul-mod_self_right}
use Rattle.std.proofs.Math.Pow.{pow_mono}
use Rattle.vg_firm.specs.declared.step.Operator.TheVariants.{ShiftRight}
use Rattle.vg_firm.specs.Operators.{computed as firm_computed, is_string}
use Rattle.vg_lin.specs.declared.instr.Operator.TheVariants.{ShiftRight as RightShift}
use Rattle.vg_lin.specs.Values.{low}
use Rattle.vg_flatten_values.specs.Values.{bytes_around, bytes_for}
use Rattle.vg_flattened.proofs.Numbers.{shifted_is, bytes_bits}
use Rattle.vg_flattened.proofs.Operating.{Computes}
use Rattle.vg_flattened.proofs.Shifting.{right_small}

pub both_hold : (a b : Bool) → (a && b) ≡ true → (a ≡ true) × (b ≡ true)
both_hold true true e = (refl, refl)
both_hold true false e = absurd (grind arith)
both_hold false b e = absurd (grind arith)

pub string_below : (bits x : ℕ) → is_string bits x ≡ true → x < 2 ^ bits
string_below bits x e = lt_of x (2 ^ bits) (both_hold (nat_le bits 32) (nat_lt x (2 ^ bits)) e).1
  where
    lt_of : (a b : ℕ) → nat_lt a b ≡ true → a < b
    lt_of a b h = grind arith

pub string_few : (bits x : ℕ) → is_string bits x ≡ true → bits ≤ 32
string_few bits x e = le_of bits (both_hold (nat_le bits 32) (nat_lt x (2 ^ bits)) e).0
  where
    le_of : (a : ℕ) → nat_le a 32 ≡ true → a ≤ 32
    le_of a h = grind arith

-- so many bytes hold a number of fewer bits
within : (bits width x : ℕ) → bits ≤ 8 * width → width ≤ 4 → x < 2 ^ bits → low width x ≡ x
within bits width x le few lt = mod-eq_of_lt (subst (λ z. x < z) (sym (bytes_bits width few)) (lt_of_lt_of_le lt (pow_mono le)))

-- ---- what a mask leaves

around_few : (bits width : ℕ) → bytes_around bits ≡ Some width → bits ≤ 8 * width
around_few bits width e = grind arith

around_high : (bits width : ℕ) → bytes_around bits ≡ Some width → width ≤ 4
around_high bits width e = grind arith

around_bits : (bits width : ℕ) → bytes_around bits ≡ Some width → bits ≤ 32
around_bits bits width e = grind arith

pub masked_is : (bits width x : ℕ) → bytes_around bits ≡ Some width → low width (bit_and x (2 ^ bits - 1)) ≡ x % 2 ^ bits
masked_is bits width x e =
    ap (low width) (and_mask x bits)
    ∙ within bits width (x % 2 ^ bits) (around_few bits width e) (around_high bits width e) (mod_below x (2 ^ bits) (pow_pos bits))

pub masked_small : (bits width x : ℕ) → bytes_around bits ≡ Some width → x % 2 ^ bits < 2 ^ 32
masked_small bits width x e = lt_of_lt_of_le (mod_below x (2 ^ bits) (pow_pos bits)) (pow_mono (around_bits bits width e))

-- ---- the opposite of each bit

for_few : (bits : ℕ) → bits ≤ 32 → bits ≤ 8 * bytes_for bits
for_few bits le = grind arith

for_high : (bits : ℕ) → bytes_for bits ≤ 4
for_high bits = grind arith

-- a difference that does not wrap
differs : (a b x : ℕ) → x < a → a ≤ b → (a - 1 + (b - x)) % b ≡ a - 1 - x
differs a b x lt le = ap (λ z. z % b) (split a b x lt le) ∙ add-mul-mod_self_right (a - 1 - x) 1 b ∙ mod-eq_of_lt (small a b x lt le)
  where
    split : (c d y : ℕ) → y < c → c ≤ d → c - 1 + (d - y) ≡ c - 1 - y + 1 * d
    split c d y l h = omega (arith, l, h)

    small : (c d y : ℕ) → y < c → c ≤ d → c - 1 - y < d
    small c d y l h = omega (arith, l, h)

pub complement_is : (bits x : ℕ) → bits ≤ 32 → x < 2 ^ bits
    → low (bytes_for bits) (2 ^ bits - 1 + (256 ^ bytes_for bits - low (bytes_for bits) x)) ≡ 2 ^ bits - 1 - x
complement_is bits x le lt =
    ap (λ z. low (bytes_for bits) (2 ^ bits - 1 + (256 ^ bytes_for bits - z))) (within bits (bytes_for bits) x (for_few bits le) (for_high bits) lt)
    ∙ differs (2 ^ bits) (256 ^ bytes_for bits) x lt
    (subst (λ z. 2 ^ bits ≤ z) (sym (bytes_bits (bytes_for bits) (for_high bits))) (pow_mono (for_few bits le)))

pub complement_below : (bits x : ℕ) → bits ≤ 32 → 2 ^ bits - 1 - x < 2 ^ 32
complement_below bits x le = less (2 ^ bits) (2 ^ 32) x (pow_pos bits) (pow_mono le)
  where
    less : (a b y : ℕ) → 0 < a → a ≤ b → a - 1 - y < b
    less a b y p h = omega (arith, p, h)

-- ---- shifts to the right

-- nothing is left of a string of as many bits, or fewer
none_left : (bits x y : ℕ) → x < 2 ^ bits → bits ≤ y → x / 2 ^ y ≡ 0
none_left bits x y lt le = div-eq_of_lt (lt_of_lt_of_le lt (pow_mono le))

abbrev pub right_in : (bits x y : ℕ) → ℕ
right_in bits x y = if nat_lt y bits then x / 2 ^ y else 0

right_linear : (bits width x y : ℕ) → bits ≤ 8 * width → width ≤ 4 → x < 2 ^ bits
    → (if nat_lt y (8 * width) then low width x / 2 ^ y else 0) ≡ right_in bits x y
right_linear bits width x y few high lt =
    ap (λ z. if nat_lt y (8 * width) then z / 2 ^ y else 0) (within bits width x few high lt) ∙ by_bits (nat_lt y bits) refl
  where
    inside : (a b c : ℕ) → b ≤ c → nat_lt a b ≡ true → nat_lt a c ≡ true
    inside a b c l h = grind arith

    above : (a b : ℕ) → nat_lt a b ≡ false → b ≤ a
    above a b h = grind arith

    by_width : (b : Bool) → bits ≤ y → (if b then x / 2 ^ y else 0) ≡ 0
    by_width true le = none_left bits x y lt le
    by_width false le = refl

    by_bits : (b : Bool) → nat_lt y bits ≡ b → (if nat_lt y (8 * width) then x / 2 ^ y else 0) ≡ (if b then x / 2 ^ y else 0)
    by_bits true e = ap (λ b. if b then x / 2 ^ y else 0) (inside y bits (8 * width) few e)
    by_bits false e = by_width (nat_lt y (8 * width)) (above y bits e)

pub right_in_small : (bits x y : ℕ) → x < 2 ^ 32 → right_in bits x y < 2 ^ 32
right_in_small bits x y h = by_bits (nat_lt y bits)
  where
    by_bits : (b : Bool) → (if b then x / 2 ^ y else 0) < 2 ^ 32
    by_bits true = right_small x y h
    by_bits false = omega arith

pub right_string : (bits x y : ℕ) → x < 2 ^ 32 → y < 2 ^ 32 → is_string bits x ≡ true → Computes (ShiftRight bits) RightShift (bytes_for bits) x y
right_string bits x y h g ok =
    record {
      z = right_in bits x y;
      packed = ap Some (shifted_is y bits (λ n. x / 2 ^ n) g (string_few bits x ok));
      linear = ap Some (right_linear bits (bytes_for bits) x y (for_few bits (string_few bits x ok)) (for_high bits) (string_below bits x ok));
      small = right_in_small bits x y h;
    }

-- a shift by all bits, or more, leaves nothing
pub right_nothing_left : (bits x y : ℕ) → y < 2 ^ 32 → is_string bits x ≡ true → nat_lt y bits ≡ false → firm_computed (ShiftRight bits) x y ≡ Some 0
right_nothing_left bits x y g ok e =
    ap Some (shifted_is y bits (λ n. x / 2 ^ n) g (string_few bits x ok) ∙ ap (λ b. if b then x / 2 ^ y else 0) e)
