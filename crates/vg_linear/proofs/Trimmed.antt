-- Trimmed procedures are no longer than they were.
use Rattle.std.specs.Prelude.{ℕ, zero, suc, ◌*◌, ◌<◌, List, [], ◌∷◌, length, Some, slice_get}
use Rattle.std.proofs.Common.{◌≡◌, refl, sym, subst, arith}
use Rattle.std.proofs.lemmas.Option.{none-some, same_Some}
use Rattle.vg_lin.specs.Program.{Procedure}
use Rattle.vg_trim.specs.Looked.{AreNoLonger}
use Rattle.vg_linear.specs.Expanded.{IsOneTooLong}

-- one that is too long was so before it was trimmed
pub long_before : (old new : List Procedure) → AreNoLonger old new → IsOneTooLong new → IsOneTooLong old
long_before old new all h = by old new all h.number h.there
  where
    by : (xs ys : List Procedure) → AreNoLonger xs ys → (i : ℕ) → slice_get ys i ≡ Some h.procedure → IsOneTooLong xs
    by [] [] a i e = absurd (none-some h.procedure e)
    by [] (y ∷ ys) a i e = absurd a
    by (x ∷ xs) [] a i e = absurd a
    by (x ∷ xs) (y ∷ ys) (shorter, a) zero e =
        let long = subst (λ (z : Procedure). 65535 < 2 * length z.code) (sym (same_Some y h.procedure e)) h.long in
        record { number = 0; procedure = x; there = refl; long = omega (arith, shorter, long) }
    by (x ∷ xs) (y ∷ ys) (shorter, a) (suc i) e =
        let r = by xs ys a i e in record { number = suc r.number; procedure = r.procedure; there = r.there; long = r.long }
