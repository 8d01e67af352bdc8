-- Procedures that are expanded one for one.
use Rattle.std.proofs.Common.{◌≡◌, sym, subst, arith, ℕ, zero, suc, ◌*◌, ◌<◌, List, [], ◌∷◌, ◌++◌, length, Some, Err, slice_get, get_or}
use Rattle.std.proofs.lemmas.Option.{same_Some, none-some}
use Rattle.vg_base.specs.declared.refusal.Refusal.{Refusal}
use Rattle.vg_base.specs.declared.refusal.Refusal.TheVariants.{Fault as Faulty, NoMemory as Memory}
use Rattle.vg_lin.specs.Program.{Procedure}
use Rattle.vg_expand.specs.declared.too_long.TooLong.{TooLong}
use Rattle.vg_expand.specs.Refusals.{IsCause}
use Rattle.vg_linear.specs.Expanded.{IsOneTooLong, IsTooLongFor}
use Rattle.vg_linear.proofs.Lists.{get_at}

-- one of them is too long
pub one_too_long : (ms : List Procedure) (i : ℕ) (m : Procedure) → i < length ms → m ≡ get_or ms i m → (why : Refusal TooLong) → IsCause why m.code
    → IsTooLongFor (Err why) ms
one_too_long ms i m lt e Memory h = tt
one_too_long ms i m lt e (Faulty why) h = record { number = i; procedure = m; there = get_at ms i m lt e; long = h }

-- it is not the one behind the others, where that is short
pub among : (ms : List Procedure) (s : Procedure) → length s.code < 32768 → IsOneTooLong (ms ++ s ∷ []) → IsOneTooLong ms
among ms s short h = by ms h.number h.there
  where
    by : (xs : List Procedure) (i : ℕ) → slice_get (xs ++ s ∷ []) i ≡ Some h.procedure → IsOneTooLong xs
    by [] zero e =
        let long = subst (λ (z : Procedure). 65535 < 2 * length z.code) (sym (same_Some s h.procedure e)) h.long in absurd (omega (arith, long, short))
    by [] (suc i) e = absurd (none-some h.procedure e)
    by (x ∷ xs) zero e = record { number = 0; procedure = h.procedure; there = e; long = h.long }
    by (x ∷ xs) (suc i) e =
        let r = by xs i e in record { number = suc r.number; procedure = r.procedure; there = r.there; long = r.long }
