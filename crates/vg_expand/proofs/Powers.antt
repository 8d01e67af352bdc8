-- The search for a power of 2, one number further.
use Rattle.std.specs.Prelude.{ℕ, suc, ◌+◌, ◌-◌, ◌*◌, ◌<◌, ◌≢◌, ◌^◌, true, false, ◌==◌, Some, if◌then◌else◌}
use Rattle.std.proofs.Common.{◌≡◌, sym, ap, ◌∙◌, arith}
use Rattle.std.proofs.Math.Nat.{pow-succ'}
use Rattle.vg_expand.specs.Code.{power_from}

step : (n k : ℕ) → n < 32 → power_from (32 - n) n k ≡ (if 2 ^ n == k then Some n else power_from (32 - (n + 1)) (n + 1) k)
step n k h = ap (λ m. power_from m n k) e ∙ ap (λ m. if 2 ^ n == k then Some n else power_from (32 - (n + 1)) m k) f
  where
    e : 32 - n ≡ suc (32 - (n + 1))
    e = omega (arith, h)

    f : suc n ≡ n + 1
    f = omega arith

same : (a b : ℕ) → a ≡ b → (a == b) ≡ true
same a b e = grind arith

other : (a b : ℕ) → a ≢ b → (a == b) ≡ false
other a b e = grind arith

pub found : (power n k : ℕ) → power ≡ 2 ^ n → n < 32 → power ≡ k → power_from (32 - n) n k ≡ Some n
found power n k p h e = step n k h ∙ ap (λ b. if b then Some n else power_from (32 - (n + 1)) (n + 1) k) (same (2 ^ n) k (sym p ∙ e))

pub passed : (power n k : ℕ) → power ≡ 2 ^ n → n < 32 → power ≢ k → power_from (32 - (n + 1)) (n + 1) k ≡ power_from (32 - n) n k
passed power n k p h e =
    sym (step n k h ∙ ap (λ b. if b then Some n else power_from (32 - (n + 1)) (n + 1) k) (other (2 ^ n) k (λ q. e (p ∙ q))))

pub doubled : (power n : ℕ) → power ≡ 2 ^ n → power * 2 ≡ 2 ^ (n + 1)
doubled power n p = let e : n + 1 ≡ suc n = omega arith in let f : 2 ^ suc n ≡ 2 * 2 ^ n = pow-succ' 2 n in
    ap (λ z. z * 2) p ∙ (omega (arith, f) ∙ ap (λ z. 2 ^ z) (sym e))
