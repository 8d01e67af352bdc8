-- Which methods have procedures.
use Rattle.std.proofs.Common.{◌≡◌, refl, arith, ℕ, zero, suc, true, false, List, [], ◌∷◌, Option, Some, None, slice_get}
use Rattle.vg_live.specs.declared.live_set.Reason.{Reason}
use Rattle.vg_live.specs.Sets.{flat}
use Rattle.vg_number.specs.Numbering.{has_reason}
use Rattle.vg_pack_calls.specs.Procedures.{procedures_from}

pub have : (n : ℕ) (live : List (Option Reason)) (m : ℕ) → has_reason live m ≡ true → (q : ℕ) × (flat (slice_get (procedures_from n live) m) ≡ Some q)
have n [] m e = absurd (grind (arith, e))
have n (Some r ∷ rs) zero e = (n, refl)
have n (None ∷ rs) zero e = absurd (let clash : false ≡ true = e in cc)
have n (Some r ∷ rs) (suc m) e = have (suc n) rs m e
have n (None ∷ rs) (suc m) e = have n rs m e

pub alone : (n : ℕ) (live : List (Option Reason)) (m q : ℕ) → flat (slice_get (procedures_from n live) m) ≡ Some q → has_reason live m ≡ true
alone n [] m q e = absurd (grind (arith, e))
alone n (Some r ∷ rs) zero q e = refl
alone n (None ∷ rs) zero q e = absurd (grind (arith, e))
alone n (Some r ∷ rs) (suc m) q e = alone (suc n) rs m q e
alone n (None ∷ rs) (suc m) q e = alone n rs m q e
