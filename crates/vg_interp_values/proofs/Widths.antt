-- Numbers of 32 bits under greater powers of two.
use Rattle.std.proofs.Common.{◌≡◌, ℕ, ◌<◌, ◌≤◌, ◌/◌, ◌%◌, ◌^◌, arith}
use Rattle.std.proofs.Math.Nat.{mod-eq_of_lt, div-eq_of_lt}
use Rattle.std.proofs.Math.Pow.{pow_mono}

-- such a number is below each greater power
below_power : (k n : ℕ) → 32 ≤ k → n < 2 ^ 32 → n < 2 ^ k
below_power k n h small = let grows : 2 ^ 32 ≤ 2 ^ k = pow_mono h in omega (arith, grows, small)

-- no bit is cut
pub whole : (k n : ℕ) → 32 ≤ k → n < 2 ^ 32 → n % 2 ^ k ≡ n
whole k n h small = mod-eq_of_lt (below_power k n h small)

-- no bit is left
pub none_left : (k n : ℕ) → 32 ≤ k → n < 2 ^ 32 → n / 2 ^ k ≡ 0
none_left k n h small = div-eq_of_lt (below_power k n h small)
