-- Lists with one more, or with another at a place; and members that are the same or not.
use Rattle.std.proofs.Common.{◌≡◌, ◌⊎◌, refl, ap, arith, ℕ, zero, suc, ◌<◌, List, [], ◌∷◌, ◌++◌, length, Option, Some, None, slice_get, slice_set}
use Rattle.std.proofs.lemmas.Option.{none-some}
use mathlib.Core.Logic.{inl, inr}
use Rattle.vg_core.specs.declared.member.Member.{Member}
use Rattle.vg_core.specs.declared.member.Member.TheVariants.{Method, Field, Cell}

pub get_front : {A : Type 0} (xs : List A) (z y : A) (n : ℕ) → slice_get xs n ≡ Some y → slice_get (xs ++ z ∷ []) n ≡ Some y
get_front [] z y n e = absurd (none-some y e)
get_front (x ∷ xs) z y zero e = e
get_front (x ∷ xs) z y (suc n) e = get_front xs z y n e

pub get_last : {A : Type 0} (xs : List A) (z : A) → slice_get (xs ++ z ∷ []) (length xs) ≡ Some z
get_last [] z = refl
get_last (x ∷ xs) z = get_last xs z

pub get_either : {A : Type 0} (xs : List A) (z y : A) (n : ℕ) → slice_get (xs ++ z ∷ []) n ≡ Some y
    → (slice_get xs n ≡ Some y) ⊎ ((n ≡ length xs) × (z ≡ y))
get_either [] z y zero e = inr (refl, same e)
  where
    same : Some z ≡ Some y → z ≡ y
    same q = cc
get_either [] z y (suc n) e = absurd (none-some y e)
get_either (x ∷ xs) z y zero e = inl e
get_either (x ∷ xs) z y (suc n) e = by' (get_either xs z y n e)
  where
    by' : (slice_get xs n ≡ Some y) ⊎ ((n ≡ length xs) × (z ≡ y)) → (slice_get xs n ≡ Some y) ⊎ ((suc n ≡ suc (length xs)) × (z ≡ y))
    by' (inl h) = inl h
    by' (inr (a, b)) = inr (ap suc a, b)

pub get_set : {A : Type 0} (xs : List A) (i : ℕ) (y : A) → i < length xs → slice_get (slice_set xs i y) i ≡ Some y
get_set [] i y h = absurd (omega (arith, h))
get_set (x ∷ xs) zero y h = refl
get_set (x ∷ xs) (suc i) y h = get_set xs i y (omega (arith, h))

pub get_other : {A : Type 0} (xs : List A) (i j : ℕ) (y : A) → ((j ≡ i) → ⊥) → slice_get (slice_set xs i y) j ≡ slice_get xs j
get_other [] i j y n = refl
get_other (x ∷ xs) zero zero y n = absurd (n refl)
get_other (x ∷ xs) zero (suc j) y n = refl
get_other (x ∷ xs) (suc i) zero y n = refl
get_other (x ∷ xs) (suc i) (suc j) y n = get_other xs i j y (λ e. n (ap suc e))

pub same_or_not : (a b : ℕ) → (a ≡ b) ⊎ ((a ≡ b) → ⊥)
same_or_not zero zero = inl refl
same_or_not zero (suc b) = inr (λ e. omega (arith, e))
same_or_not (suc a) zero = inr (λ e. omega (arith, e))
same_or_not (suc a) (suc b) = by' (same_or_not a b)
  where
    by' : (a ≡ b) ⊎ ((a ≡ b) → ⊥) → (suc a ≡ suc b) ⊎ ((suc a ≡ suc b) → ⊥)
    by' (inl e) = inl (ap suc e)
    by' (inr n) = inr (λ e. n (omega (arith, e)))

abbrev number_in : Member → ℕ
number_in (Method m) = m
number_in (Field m) = m
number_in (Cell m) = m

abbrev sort_in : Member → ℕ
sort_in (Method m) = 0
sort_in (Field m) = 1
sort_in (Cell m) = 2

pub same_member : (x y : Member) → (x ≡ y) ⊎ ((x ≡ y) → ⊥)
same_member (Method a) (Method b) = by' (same_or_not a b)
  where
    by' : (a ≡ b) ⊎ ((a ≡ b) → ⊥) → (Method a ≡ Method b) ⊎ ((Method a ≡ Method b) → ⊥)
    by' (inl e) = inl (ap Method e)
    by' (inr n) = inr (λ e. n (ap number_in e))
same_member (Field a) (Field b) = by' (same_or_not a b)
  where
    by' : (a ≡ b) ⊎ ((a ≡ b) → ⊥) → (Field a ≡ Field b) ⊎ ((Field a ≡ Field b) → ⊥)
    by' (inl e) = inl (ap Field e)
    by' (inr n) = inr (λ e. n (ap number_in e))
same_member (Cell a) (Cell b) = by' (same_or_not a b)
  where
    by' : (a ≡ b) ⊎ ((a ≡ b) → ⊥) → (Cell a ≡ Cell b) ⊎ ((Cell a ≡ Cell b) → ⊥)
    by' (inl e) = inl (ap Cell e)
    by' (inr n) = inr (λ e. n (ap number_in e))
same_member (Method a) (Field b) = inr (λ e. let z = ap sort_in e in omega (arith, z))
same_member (Method a) (Cell b) = inr (λ e. let z = ap sort_in e in omega (arith, z))
same_member (Field a) (Method b) = inr (λ e. let z = ap sort_in e in omega (arith, z))
same_member (Field a) (Cell b) = inr (λ e. let z = ap sort_in e in omega (arith, z))
same_member (Cell a) (Method b) = inr (λ e. let z = ap sort_in e in omega (arith, z))
same_member (Cell a) (Field b) = inr (λ e. let z = ap sort_in e in omega (arith, z))
