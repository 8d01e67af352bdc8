-- What holds of the places before one, and of that one.
use Rattle.std.specs.Prelude.{ℕ, ◌+◌, ◌<◌, Bool, true, false, nat_lt}
use Rattle.std.proofs.Common.{◌≡◌, refl, subst, arith}

pub one_more : (P : ℕ → Type 0) (n : ℕ) → ((k : ℕ) → k < n → P k) → P n → (k : ℕ) → k < n + 1 → P k
one_more P n before here k h = by_test (nat_lt k n) refl
  where
    less : (a b : ℕ) → nat_lt a b ≡ true → a < b
    less a b e = grind arith

    same : (a b : ℕ) → nat_lt a b ≡ false → a < b + 1 → b ≡ a
    same a b e l = grind arith

    by_test : (b : Bool) → nat_lt k n ≡ b → P k
    by_test true e = before k (less k n e)
    by_test false e = subst P (same k n e h) here
