-- Shifts of both sides: what is computed, by the bits that are shifted.
use Rattle.std.specs.Prelude.{ℕ, zero, suc, ◌+◌, ◌-◌, ◌*◌, ◌/◌, ◌%◌, ◌^◌, ◌<◌, ◌≤◌, Bool, true, false, ◌==◌, nat_lt, bit_and, Some, None, if◌then◌else◌}
use Rattle.std.proofs.Common.{◌≡◌, refl, sym, ap, ◌∙◌, subst, arith}
use Rattle.std.proofs.lemmas.Nat.{pow-add, pow_pos, and_mask, mod_below}
use Rattle.std.proofs.Math.Nat.{mul_assoc, mul-mod_left, mod-add-div, add-mul-mod_self_left, mod-eq_of_lt, div-le_self, lt_of_lt_of_le}
use Rattle.std.proofs.Math.Pow.{pow_mono}
use Rattle.vg_firm.specs.declared.step.Operator.TheVariants.{ShiftLeft}
use Rattle.vg_firm.specs.Operators.{computed as firm_computed}
use Rattle.vg_lin.specs.declared.instr.Operator.TheVariants.{ShiftLeft as LeftShift}
use Rattle.vg_lin.specs.Values.{low, computed as lin_computed}
use Rattle.vg_flatten_values.specs.Values.{bytes_of}
use Rattle.vg_flatten_shapes.proofs.Temps.{some_is, none_is_not}
use Rattle.vg_flattened.proofs.Numbers.{shifted_is}
use Rattle.vg_flattened.proofs.Operating.{Computes}

-- ---- to the left

-- What is left of a number shifted to the left in so many bits.
abbrev pub left_in : (bits x y : ℕ) → ℕ
left_in bits x y = if nat_lt y bits then x * 2 ^ y % 2 ^ bits else 0

pub left_is : (bits x y : ℕ) → y < 2 ^ 32 → bits ≤ 32 → firm_computed (ShiftLeft bits) x y ≡ Some (left_in bits x y)
left_is bits x y h le = ap Some (shifted_is y bits (λ n. x * 2 ^ n % 2 ^ bits) h le)

pub left_in_small : (bits x y : ℕ) → bits ≤ 32 → left_in bits x y < 2 ^ 32
left_in_small bits x y le = by_size (nat_lt y bits)
  where
    by_size : (b : Bool) → (if b then x * 2 ^ y % 2 ^ bits else 0) < 2 ^ 32
    by_size true = lt_of_lt_of_le (mod_below (x * 2 ^ y) (2 ^ bits) (pow_pos bits)) (pow_mono le)
    by_size false = omega arith

-- bits that are whole bytes
pub left_whole : (bits width x y : ℕ) → bytes_of bits ≡ Some width → y < 2 ^ 32 → Computes (ShiftLeft bits) LeftShift width x y
left_whole bits width x y e h = by_8 (bits == 8) refl e
  where
    as_whole : (n v : ℕ) → bits ≡ n → v ≡ width → n ≤ 32 → lin_computed LeftShift v x y ≡ Some (left_in n x y)
        → Computes (ShiftLeft bits) LeftShift width x y
    as_whole n v en ev le linear =
        subst (λ k. Computes (ShiftLeft k) LeftShift width x y) (sym en) (subst (λ k. Computes (ShiftLeft n) LeftShift k x y) ev
        (record { z = left_in n x y; packed = left_is n x y h le; linear = linear; small = left_in_small n x y le }))

    by_32 : (b : Bool) → (bits == 32) ≡ b → (if b then Some 4 else None) ≡ Some width → Computes (ShiftLeft bits) LeftShift width x y
    by_32 true h1 e2 = as_whole 32 4 (grind arith) (some_is 4 width e2) (omega arith) refl
    by_32 false h1 e2 = none_is_not width e2

    by_24 : (b : Bool) → (bits == 24) ≡ b → (if b then Some 3 else if bits == 32 then Some 4 else None) ≡ Some width
        → Computes (ShiftLeft bits) LeftShift width x y
    by_24 true h1 e2 = as_whole 24 3 (grind arith) (some_is 3 width e2) (omega arith) refl
    by_24 false h1 e2 = by_32 (bits == 32) refl e2

    by_16 : (b : Bool) → (bits == 16) ≡ b → (if b then Some 2 else if bits == 24 then Some 3 else if bits == 32 then Some 4 else None) ≡ Some width
        → Computes (ShiftLeft bits) LeftShift width x y
    by_16 true h1 e2 = as_whole 16 2 (grind arith) (some_is 2 width e2) (omega arith) refl
    by_16 false h1 e2 = by_24 (bits == 24) refl e2

    by_8 : (b : Bool) → (bits == 8) ≡ b
        → (if b then Some 1 else if bits == 16 then Some 2 else if bits == 24 then Some 3 else if bits == 32 then Some 4 else None) ≡ Some width
        → Computes (ShiftLeft bits) LeftShift width x y
    by_8 true h1 e2 = as_whole 8 1 (grind arith) (some_is 1 width e2) (omega arith) refl
    by_8 false h1 e2 = by_16 (bits == 16) refl e2

-- other bits: what is above them is cleared
abbrev pub left_wide : (width x y : ℕ) → ℕ
left_wide width x y = if nat_lt y (8 * width) then low width (x * 2 ^ y) else 0

pub left_wide_small : (width x y : ℕ) → width ≤ 4 → left_wide width x y < 2 ^ 32
left_wide_small width x y le = by_size (nat_lt y (8 * width))
  where
    by_width : (w n : ℕ) → w ≤ 4 → low w n < 2 ^ 32
    by_width zero n l = omega arith
    by_width (suc zero) n l = omega arith
    by_width (suc (suc zero)) n l = omega arith
    by_width (suc (suc (suc zero))) n l = omega arith
    by_width (suc (suc (suc (suc zero)))) n l = omega arith
    by_width (suc (suc (suc (suc (suc w))))) n l = absurd (omega (arith, l))

    by_size : (b : Bool) → (if b then low width (x * 2 ^ y) else 0) < 2 ^ 32
    by_size true = by_width width (x * 2 ^ y) le
    by_size false = omega arith

-- the low bits of low bytes
low_bits : (a b j : ℕ) → a % 2 ^ (b + j) % 2 ^ b ≡ a % 2 ^ b
low_bits a b j =
    sym (add-mul-mod_self_left (a % 2 ^ (b + j)) (2 ^ b) (2 ^ j * (a / 2 ^ (b + j))))
    ∙ ap (λ z. (a % 2 ^ (b + j) + z) % 2 ^ b) (sym (mul_assoc (2 ^ b) (2 ^ j) (a / 2 ^ (b + j))))
    ∙ ap (λ z. (a % 2 ^ (b + j) + z * (a / 2 ^ (b + j))) % 2 ^ b) (sym (pow-add 2 b j))
    ∙ ap (λ z. z % 2 ^ b) (mod-add-div a (2 ^ (b + j)))

-- nothing is left of a shift by as many bits, or more
none_left : (x b j : ℕ) → x * 2 ^ (j + b) % 2 ^ b ≡ 0
none_left x b j = ap (λ z. x * z % 2 ^ b) (pow-add 2 j b) ∙ ap (λ z. z % 2 ^ b) (sym (mul_assoc x (2 ^ j) (2 ^ b))) ∙ mul-mod_left (x * 2 ^ j) (2 ^ b)

module _ (bits width x y : ℕ) (wide : bits < 8 * width) (bytes : 256 ^ width ≡ 2 ^ (8 * width)) where
  rest_is : bits + (8 * width - bits) ≡ 8 * width
  rest_is = omega (arith, wide)

  low_is : (a : ℕ) → low width a % 2 ^ bits ≡ a % 2 ^ bits
  low_is a =
      ap (λ z. a % z % 2 ^ bits) (bytes ∙ ap (λ z. 2 ^ z) (sym rest_is)) ∙ low_bits a bits (8 * width - bits)

  in_bits : left_wide width x y % 2 ^ bits ≡ left_in bits x y
  in_bits = by_width (nat_lt y (8 * width)) refl
    where
      by_bits : (b : Bool) → nat_lt y bits ≡ b → x * 2 ^ y % 2 ^ bits ≡ (if b then x * 2 ^ y % 2 ^ bits else 0)
      by_bits true e = refl
      by_bits false e =
          let ge : bits ≤ y = grind arith in
          let is : y - bits + bits ≡ y = omega (arith, ge) in ap (λ z. x * 2 ^ z % 2 ^ bits) (sym is) ∙ none_left x bits (y - bits)

      is_not : (a b : ℕ) → b ≤ a → nat_lt a b ≡ false
      is_not a b l = grind arith

      by_width : (b : Bool) → nat_lt y (8 * width) ≡ b → (if b then low width (x * 2 ^ y) else 0) % 2 ^ bits ≡ left_in bits x y
      by_width true e = low_is (x * 2 ^ y) ∙ by_bits (nat_lt y bits) refl
      by_width false e =
          let ge : 8 * width ≤ y =
          grind arith in mod-eq_of_lt (pow_pos bits) ∙ ap (λ b. if b then x * 2 ^ y % 2 ^ bits else 0) (sym (is_not y bits (omega (arith, ge, wide))))

  pub left_masked : low width (bit_and (left_wide width x y) (2 ^ bits - 1)) ≡ left_in bits x y
  left_masked =
      ap (low width) (and_mask (left_wide width x y) bits) ∙ mod-eq_of_lt (lt_of_lt_of_le (mod_below (left_wide width x y) (2 ^ bits) (pow_pos bits)) within)
      ∙ in_bits
    where
      le : bits ≤ 8 * width
      le = omega (arith, wide)

      within : 2 ^ bits ≤ 256 ^ width
      within = subst (λ z. 2 ^ bits ≤ z) (sym bytes) (pow_mono le)

-- ---- to the right

pub right_small : (x y : ℕ) → x < 2 ^ 32 → x / 2 ^ y < 2 ^ 32
right_small x y h = let le = div-le_self x (2 ^ y) in omega (arith, le, h)
