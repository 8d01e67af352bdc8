-- One more number behind those of the dispatches so far.
use Rattle.std.specs.Prelude.{ℕ, zero, suc, List, [], ◌∷◌, ◌++◌, length, Option, Some, None}
use Rattle.std.proofs.Common.{◌≡◌, subst}
use Rattle.std.proofs.lemmas.Option.{same_Some, none-some}
use Rattle.vg_codes.specs.declared.case.Case.{Case}
use Rattle.vg_finding.specs.Finders.{finder_in}
use Rattle.vg_finding.specs.Found.{IsFinderOf}
use Rattle.vg_finders.specs.Numbering.{AreNumbers, IsNumber}

one_more : (P : ℕ → ℕ → Type 0) (xs : List (Option ℕ)) (x : Option ℕ) → ((d q : ℕ) → finder_in xs d ≡ Some q → P d q)
    → ((q : ℕ) → x ≡ Some q → P (length xs) q) → (d q : ℕ) → finder_in (xs ++ x ∷ []) d ≡ Some q → P d q
one_more P [] x before last zero q e = last q e
one_more P [] x before last (suc d) q e = absurd (none-some q e)
one_more P (y ∷ ys) x before last zero q e = before zero q e
one_more P (y ∷ ys) x before last (suc d) q e = one_more (λ k p. P (suc k) p) ys x (λ k. before (suc k)) last d q e

module _ (count before : ℕ) (olds news : List (List Case)) (finders : List ℕ) where
  finder_of : (d : ℕ) (x : Option ℕ) → IsNumber count before olds news finders d x → (q : ℕ) → x ≡ Some q → IsFinderOf count before olds news finders d q
  finder_of d (Some p) h q e = subst (IsFinderOf count before olds news finders d) (same_Some p q e) h
  finder_of d None h q e = absurd (none-some q e)

  pub number_more : (xs : List (Option ℕ)) (x : Option ℕ) → AreNumbers count before olds news finders xs
      → IsNumber count before olds news finders (length xs) x → AreNumbers count before olds news finders (xs ++ x ∷ [])
  number_more xs x a h = one_more (IsFinderOf count before olds news finders) xs x a (finder_of (length xs) x h)
