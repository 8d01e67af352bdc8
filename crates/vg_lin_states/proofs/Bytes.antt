-- Bytes of numbers.
use Rattle.std.specs.Prelude.{ℕ, zero, suc, ◌+◌, ◌-◌, ◌/◌, ◌%◌, ◌^◌, ◌<◌, ◌≤◌, List, Some, slice_get, slice_set}
use Rattle.std.proofs.Common.{◌≡◌, sym, ap, ◌∙◌, arith}
use Rattle.std.proofs.Math.Nat.{mod-eq_of_lt, pow-le-pow_right}
use Rattle.vg_lin.specs.Values.{low}
use Rattle.vg_lin.specs.State.{joined, number_at, with_number}

-- Four bytes and more hold a number of 32 bits.
pub whole : (width x : ℕ) → 4 ≤ width → x < 2 ^ 32 → x ≡ low width x
whole width x h small =
    let some : 0 < 256 = omega arith in
    let grows : 256 ^ 4 ≤ 256 ^ width = pow-le-pow_right some h in
    let below : x < 256 ^ width = omega (arith, grows, small) in
    sym (mod-eq_of_lt below)

pub number_none : (bytes : List ℕ) (width i : ℕ) → width ≡ 0 → Some 0 ≡ number_at bytes width i
number_none bytes width i e = ap (λ w. number_at bytes w i) (sym e)

pub number_step : (bytes : List ℕ) (width i : ℕ) → 0 < width → number_at bytes width i ≡ joined (slice_get bytes i) (number_at bytes (width - 1) (i + 1))
number_step bytes zero i h = absurd (omega (arith, h))
number_step bytes (suc w) i h =
    let one : w ≡ suc w - 1 = omega arith in
    let next : suc i ≡ i + 1 = omega arith in
    ap (λ k. joined (slice_get bytes i) (number_at bytes k (suc i))) one ∙ ap (λ k. joined (slice_get bytes i) (number_at bytes (suc w - 1) k)) next

pub put_none : (bytes : List ℕ) (width i x : ℕ) → width ≡ 0 → bytes ≡ with_number bytes width i x
put_none bytes width i x e = ap (λ w. with_number bytes w i x) (sym e)

pub put_step : (bytes : List ℕ) (width i x : ℕ) → 0 < width
    → with_number bytes width i x ≡ with_number (slice_set bytes i (x % 256)) (width - 1) (i + 1) (x / 256)
put_step bytes zero i x h = absurd (omega (arith, h))
put_step bytes (suc w) i x h =
    let one : w ≡ suc w - 1 = omega arith in
    let next : suc i ≡ i + 1 = omega arith in
    ap (λ k. with_number (slice_set bytes i (x % 256)) k (suc i) (x / 256)) one
    ∙ ap (λ k. with_number (slice_set bytes i (x % 256)) (suc w - 1) k (x / 256)) next
