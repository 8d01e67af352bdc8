-- Rows that are gathered along live methods, one more at a time.
use Rattle.std.proofs.Common.{◌≡◌, refl, sym, ap, subst, ◌∙◌, arith, ℕ, zero, suc, ◌+◌, ◌<◌, Bool, List, [], ◌∷◌, ◌++◌, drop, length, append_assoc, Option}
use Rattle.vg_core.specs.declared.step.Step.{Step}
use Rattle.vg_core.specs.Program.{Program}
use Rattle.vg_live.specs.declared.live_set.Reason.{Reason}
use Rattle.vg_number.specs.Numbering.{has_reason}
use Rattle.vg_codes.specs.declared.case.Case.{Case}
use Rattle.vg_core.specs.declared.program.Class.{Class}
use Rattle.vg_core.specs.declared.program.Tables.{Tables}
use Rattle.vg_number.specs.declared.numbers.Numbers.{Numbers}
use Rattle.vg_pack_code.specs.declared.plan.Asked.{Asked}
use Rattle.vg_pack_code.specs.declared.plan.Plan.{Plan}
use Rattle.vg_pack_calls.specs.Asked.{steps_from, steps_if}
use Rattle.vg_pack_calls.specs.Cases.{case_of, cases_from}

module _ (p : Program) where
  from_there : (i m : ℕ) (rs : List (Option Reason)) → i < length rs
      → steps_from p m (drop i rs) ≡ steps_if p (has_reason rs i) m ++ steps_from p (suc m) (drop (suc i) rs)
  from_there i m [] lt = absurd (omega (arith, lt))
  from_there zero m (r ∷ rs) lt = refl
  from_there (suc i) m (r ∷ rs) lt = from_there i m rs (omega (arith, lt))

  one : (i : ℕ) → suc i ≡ i + 1
  one i = omega arith

  pub more_steps : (rs : List (Option Reason)) (i : ℕ) (b : Bool) (rows new whole : List Step) → i < length rs → b ≡ has_reason rs i
      → rows ++ steps_from p i (drop i rs) ≡ whole → new ≡ rows ++ steps_if p b i → new ++ steps_from p (i + 1) (drop (i + 1) rs) ≡ whole
  more_steps rs i b rows new whole lt live h e =
      subst (λ z. new ++ steps_from p z (drop z rs) ≡ whole) (one i)
      (ap (λ z. z ++ steps_from p (suc i) (drop (suc i) rs)) e
      ∙ (append_assoc rows (steps_if p b i) (steps_from p (suc i) (drop (suc i) rs))
      ∙ (ap (λ z. rows ++ (steps_if p z i ++ steps_from p (suc i) (drop (suc i) rs))) live
      ∙ (ap (λ z. rows ++ z) (sym (from_there i i rs lt)) ∙ h))))

module _ (p : Tables) (n : Numbers) (x : Plan) (own : List ℕ) (a : Asked) where
  cases_there : (i c : ℕ) (ks : List Class) → i < length ks
      → cases_from p n x own a c (drop i ks) ≡ case_of p n x own a c ++ cases_from p n x own a (suc c) (drop (suc i) ks)
  cases_there i c [] lt = absurd (omega (arith, lt))
  cases_there zero c (k ∷ ks) lt = refl
  cases_there (suc i) c (k ∷ ks) lt = cases_there i c ks (omega (arith, lt))

  pub more_cases : (ks : List Class) (i : ℕ) (rows new whole : List Case) → i < length ks
      → rows ++ cases_from p n x own a i (drop i ks) ≡ whole → new ≡ rows ++ case_of p n x own a i
      → new ++ cases_from p n x own a (i + 1) (drop (i + 1) ks) ≡ whole
  more_cases ks i rows new whole lt h e =
      subst (λ z. new ++ cases_from p n x own a z (drop z ks) ≡ whole) (suc_is i)
      (ap (λ z. z ++ cases_from p n x own a (suc i) (drop (suc i) ks)) e
      ∙ (append_assoc rows (case_of p n x own a i) (cases_from p n x own a (suc i) (drop (suc i) ks))
      ∙ (ap (λ z. rows ++ z) (sym (cases_there i i ks lt)) ∙ h)))
    where
      suc_is : (i : ℕ) → suc i ≡ i + 1
      suc_is i = omega arith
