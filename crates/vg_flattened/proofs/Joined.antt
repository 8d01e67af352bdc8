-- A string that is put behind another, on both sides.
use Rattle.std.specs.Prelude.{ℕ, ◌+◌, ◌*◌, ◌^◌, ◌<◌, ◌≤◌, Bool, true, false, ◌&&◌, nat_lt, Some, if◌then◌else◌}
use Rattle.std.proofs.Common.{◌≡◌, refl, sym, ap, ◌∙◌, subst, arith}
use Rattle.vg_firm.specs.Operators.{is_string}
use Rattle.vg_lin.specs.declared.instr.Operator.TheVariants.{ShiftLeft as LeftShift}
use Rattle.vg_lin.specs.Values.{low, computed as lin_computed}
use Rattle.vg_flattened.proofs.Numbers.{low_same}
use Rattle.vg_flattened.proofs.Strings.{both_hold, string_few}

lt_of : (a b : ℕ) → nat_lt a b ≡ true → a < b
lt_of a b h = grind arith

pub concat_small : (bits x y : ℕ) → (is_string bits y && nat_lt (x * 2 ^ bits + y) (2 ^ 32)) ≡ true → x * 2 ^ bits + y < 2 ^ 32
concat_small bits x y ok = lt_of (x * 2 ^ bits + y) (2 ^ 32) (both_hold (is_string bits y) (nat_lt (x * 2 ^ bits + y) (2 ^ 32)) ok).1

pub concat_above : (bits x y : ℕ) → (is_string bits y && nat_lt (x * 2 ^ bits + y) (2 ^ 32)) ≡ true → x * 2 ^ bits < 2 ^ 32
concat_above bits x y ok = below (x * 2 ^ bits) y (concat_small bits x y ok)
  where
    below : (a b : ℕ) → a + b < 2 ^ 32 → a < 2 ^ 32
    below a b h = omega (arith, h)

-- what is above is shifted as a whole
pub shifted_whole : (bits x y : ℕ) → (is_string bits y && nat_lt (x * 2 ^ bits + y) (2 ^ 32)) ≡ true
    → lin_computed LeftShift 4 x bits ≡ Some (x * 2 ^ bits)
shifted_whole bits x y ok = ap Some (by_size (nat_lt bits 32) refl)
  where
    small : x * 2 ^ bits < 2 ^ 32
    small = concat_above bits x y ok

    all_bits : nat_lt bits 32 ≡ false → bits ≡ 32
    all_bits e = let le = string_few bits y (both_hold (is_string bits y) (nat_lt (x * 2 ^ bits + y) (2 ^ 32)) ok).0 in same bits le e
      where
        same : (n : ℕ) → n ≤ 32 → nat_lt n 32 ≡ false → n ≡ 32
        same n l h = grind arith

    by_size : (b : Bool) → nat_lt bits 32 ≡ b → (if b then low 4 (x * 2 ^ bits) else 0) ≡ x * 2 ^ bits
    by_size true e = low_same (x * 2 ^ bits) small
    by_size false e = none (subst (λ z. x * 2 ^ z < 2 ^ 32) (all_bits e) small) ∙ ap (λ z. x * 2 ^ z) (sym (all_bits e))
      where
        none : x * 2 ^ 32 < 2 ^ 32 → 0 ≡ x * 2 ^ 32
        none h = omega (arith, h)
