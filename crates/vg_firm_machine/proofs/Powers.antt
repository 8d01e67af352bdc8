-- Numbers of 32 bits under greater powers.
use Rattle.std.proofs.Common.{◌≡◌, ℕ, ◌<◌, ◌≤◌, ◌%◌, ◌^◌, true, arith, sym}
use Rattle.std.specs.Prelude.{nat_lt}
use Rattle.std.proofs.Math.Nat.{mod-eq_of_lt, pow-le-pow_right}
use Rattle.std.proofs.Math.Pow.{pow_mono}

-- four bytes and more hold it
pub holds : (width v : ℕ) → 4 ≤ width → v < 2 ^ 32 → true ≡ nat_lt v (256 ^ width)
holds width v h small =
    let some : 0 < 256 = omega arith in
    let grows : 256 ^ 4 ≤ 256 ^ width = pow-le-pow_right some h in
    grind (arith, grows, small)

-- 32 low bits and more are all
pub all_bits : (bits v : ℕ) → 32 ≤ bits → v < 2 ^ 32 → v ≡ v % 2 ^ bits
all_bits bits v h small =
    let grows : 2 ^ 32 ≤ 2 ^ bits = pow_mono h in
    let below : v < 2 ^ bits = omega (arith, grows, small) in
    sym (mod-eq_of_lt below)
