-- Numbers of 32 bits and the signed numbers that they stand for.
use Rattle.std.specs.Prelude.{ℕ, zero, suc, ◌-◌, ◌*◌, ◌^◌, ◌<◌, Bool, nat_lt, Some, if◌then◌else◌}
use Rattle.std.specs.Prelude.{ℤ, pos, negsuc, int_rem}
use Rattle.std.specs.Int.{w32, cast_unsigned, cast_signed, int_wrapping_div}
use Rattle.std.proofs.Common.{◌≡◌, ◌≢◌, refl, sym, ap, ◌∙◌, arith}
use Rattle.vg_lin.specs.declared.instr.Operator.TheVariants.{Divide, Remainder}
use Rattle.vg_lin.specs.Values.{low, signed, divided, computed}

low_same : (x : ℕ) → x < 2 ^ 32 → low 4 x ≡ x
low_same x h = omega arith

signed_same : (x : ℕ) → x < 2 ^ 32 → signed 4 x ≡ cast_signed w32 x
signed_same x h = by_sign (nat_lt (2 * low 4 x) (256 ^ 4)) (nat_lt x (2 ^ 31)) refl refl
  where
    by_sign : (b c : Bool) → nat_lt (2 * low 4 x) (256 ^ 4) ≡ b → nat_lt x (2 ^ 31) ≡ c
        → (if nat_lt (2 * low 4 x) (256 ^ 4) then pos (low 4 x) else negsuc (256 ^ 4 - 1 - low 4 x)) ≡ cast_signed w32 x
    by_sign b c e d = grind arith

pub not_zero : (y : ℕ) → y < 2 ^ 32 → y ≢ 0 → cast_signed w32 y ≢ pos 0
not_zero y h ne e = by_sign (nat_lt y (2 ^ 31)) refl
  where
    by_sign : (b : Bool) → nat_lt y (2 ^ 31) ≡ b → ⊥
    by_sign b d = grind arith

divided_by : (w y : ℕ) (z : ℤ) → y < 2 ^ 32 → y ≢ 0 → Some (low w (cast_unsigned w32 z)) ≡ divided w (low 4 y) z
divided_by w zero z h ne = absurd (ne refl)
divided_by w (suc n) z h ne = ap (λ d. divided w d z) (sym (low_same (suc n) h))

pub quotient_is : (w x y : ℕ) → x < 2 ^ 32 → y < 2 ^ 32 → y ≢ 0
    → Some (low w (cast_unsigned w32 (int_wrapping_div w32 (cast_signed w32 x) (cast_signed w32 y)))) ≡ computed Divide w x y
quotient_is w x y h g ne =
    divided_by w y (int_wrapping_div w32 (cast_signed w32 x) (cast_signed w32 y)) g ne
    ∙ ap (λ a. divided w (low 4 y) (int_wrapping_div w32 a (cast_signed w32 y))) (sym (signed_same x h))
    ∙ ap (λ a. divided w (low 4 y) (int_wrapping_div w32 (signed 4 x) a)) (sym (signed_same y g))

pub remainder_is : (w x y : ℕ) → x < 2 ^ 32 → y < 2 ^ 32 → y ≢ 0
    → Some (low w (cast_unsigned w32 (int_rem (cast_signed w32 x) (cast_signed w32 y)))) ≡ computed Remainder w x y
remainder_is w x y h g ne =
    divided_by w y (int_rem (cast_signed w32 x) (cast_signed w32 y)) g ne
    ∙ ap (λ a. divided w (low 4 y) (int_rem a (cast_signed w32 y))) (sym (signed_same x h))
    ∙ ap (λ a. divided w (low 4 y) (int_rem (signed 4 x) a)) (sym (signed_same y g))
