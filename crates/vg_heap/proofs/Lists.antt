-- Numbers are the same or not, and lists with another element in one place.
use Rattle.std.proofs.Common.{◌≡◌, ◌≢◌, ◌⊎◌, refl, sym, ap, arith, ℕ, zero, suc, List, [], ◌∷◌, Some, None, slice_get, slice_set}
use Rattle.std.proofs.lemmas.Option.{none-some}
use mathlib.Core.Logic.{inl, inr}

pub same_or_not : (a b : ℕ) → (a ≡ b) ⊎ (a ≢ b)
same_or_not zero zero = inl refl
same_or_not zero (suc b) = inr (λ e. omega (arith, e))
same_or_not (suc a) zero = inr (λ e. omega (arith, e))
same_or_not (suc a) (suc b) = by (same_or_not a b)
  where
    by : (a ≡ b) ⊎ (a ≢ b) → (suc a ≡ suc b) ⊎ (suc a ≢ suc b)
    by (inl e) = inl (ap suc e)
    by (inr n) = inr (λ e. n (omega (arith, e)))

-- the element that was put in a place is there
pub get_set : {A : Type 0} (xs : List A) (i : ℕ) (x y : A) → slice_get xs i ≡ Some x → slice_get (slice_set xs i y) i ≡ Some y
get_set [] i x y e = absurd (none-some x e)
get_set (a ∷ xs) zero x y e = refl
get_set (a ∷ xs) (suc i) x y e = get_set xs i x y e

-- behind the end of a list nothing is put
pub get_past : {A : Type 0} (xs : List A) (i : ℕ) (y : A) → slice_get xs i ≡ None → slice_get (slice_set xs i y) i ≡ None
get_past [] i y e = refl
get_past (a ∷ xs) zero y e = absurd (none-some a (sym e))
get_past (a ∷ xs) (suc i) y e = get_past xs i y e

-- all other elements are as they were
pub get_other : {A : Type 0} (xs : List A) (i j : ℕ) (y : A) → j ≢ i → slice_get (slice_set xs i y) j ≡ slice_get xs j
get_other [] i j y n = refl
get_other (a ∷ xs) zero zero y n = absurd (n refl)
get_other (a ∷ xs) zero (suc j) y n = refl
get_other (a ∷ xs) (suc i) zero y n = refl
get_other (a ∷ xs) (suc i) (suc j) y n = get_other xs i j y (λ e. n (ap suc e))
