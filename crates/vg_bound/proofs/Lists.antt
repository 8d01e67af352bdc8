-- Lists with one more, one less, or another at a place.
use Rattle.std.proofs.Common.{◌≡◌, ◌⊎◌, refl, sym, ap, subst, ◌∙◌, arith, ℕ, zero, suc, ◌+◌, ◌<◌, ◌≤◌, max, List, [], ◌∷◌, ◌++◌, length, take, drop, Some, None, slice_get, slice_set}
use Rattle.std.proofs.lemmas.Option.{none-some, same_Some}
use mathlib.Core.Logic.{inl, inr}

pub get_front : {A : Type 0} (xs : List A) (z y : A) (n : ℕ) → slice_get xs n ≡ Some y → slice_get (xs ++ z ∷ []) n ≡ Some y
get_front [] z y n e = absurd (none-some y e)
get_front (x ∷ xs) z y zero e = e
get_front (x ∷ xs) z y (suc n) e = get_front xs z y n e

pub get_last : {A : Type 0} (xs : List A) (z : A) → slice_get (xs ++ z ∷ []) (length xs) ≡ Some z
get_last [] z = refl
get_last (x ∷ xs) z = get_last xs z

pub get_either : {A : Type 0} (xs : List A) (z y : A) (n : ℕ) → slice_get (xs ++ z ∷ []) n ≡ Some y
    → (slice_get xs n ≡ Some y) ⊎ ((n ≡ length xs) × (z ≡ y))
get_either [] z y zero e = inr (refl, same_Some z y e)
get_either [] z y (suc n) e = absurd (none-some y e)
get_either (x ∷ xs) z y zero e = inl e
get_either (x ∷ xs) z y (suc n) e = by' (get_either xs z y n e)
  where
    by' : (slice_get xs n ≡ Some y) ⊎ ((n ≡ length xs) × (z ≡ y)) → (slice_get xs n ≡ Some y) ⊎ ((suc n ≡ suc (length xs)) × (z ≡ y))
    by' (inl h) = inl h
    by' (inr (a, b)) = inr (ap suc a, b)

pub get_set : {A : Type 0} (xs : List A) (i : ℕ) (y : A) → i < length xs → slice_get (slice_set xs i y) i ≡ Some y
get_set [] i y h = absurd (omega (arith, h))
get_set (x ∷ xs) zero y h = refl
get_set (x ∷ xs) (suc i) y h = get_set xs i y (omega (arith, h))

pub get_other : {A : Type 0} (xs : List A) (i j : ℕ) (y : A) → ((j ≡ i) → ⊥) → slice_get (slice_set xs i y) j ≡ slice_get xs j
get_other [] i j y n = refl
get_other (x ∷ xs) zero zero y n = absurd (n refl)
get_other (x ∷ xs) zero (suc j) y n = refl
get_other (x ∷ xs) (suc i) zero y n = refl
get_other (x ∷ xs) (suc i) (suc j) y n = get_other xs i j y (λ e. n (ap suc e))

pub get_take : {A : Type 0} (n : ℕ) (xs : List A) (i : ℕ) (y : A) → slice_get (take n xs) i ≡ Some y → slice_get xs i ≡ Some y
get_take zero xs i y e = absurd (none-some y e)
get_take (suc n) [] i y e = e
get_take (suc n) (x ∷ xs) zero y e = e
get_take (suc n) (x ∷ xs) (suc i) y e = get_take n xs i y e

pub take_below : {A : Type 0} (n : ℕ) (xs : List A) (i : ℕ) (y : A) → slice_get (take n xs) i ≡ Some y → i < n
take_below zero xs i y e = absurd (none-some y e)
take_below (suc n) [] i y e = absurd (none-some y e)
take_below (suc n) (x ∷ xs) zero y e = omega arith
take_below (suc n) (x ∷ xs) (suc i) y e = let h = take_below n xs i y e in omega (arith, h)

pub take_get : {A : Type 0} (n : ℕ) (xs : List A) (i : ℕ) (y : A) → i < n → slice_get xs i ≡ Some y → slice_get (take n xs) i ≡ Some y
take_get zero xs i y h e = absurd (omega (arith, h))
take_get (suc n) [] i y h e = e
take_get (suc n) (x ∷ xs) zero y h e = e
take_get (suc n) (x ∷ xs) (suc i) y h e = take_get n xs i y (omega (arith, h)) e

pub get_drop : {A : Type 0} (p : ℕ) (xs : List A) (j : ℕ) → slice_get (drop p xs) j ≡ slice_get xs (p + j)
get_drop zero xs j = let e : j ≡ 0 + j = omega arith in ap (slice_get xs) e
get_drop (suc p) [] j = refl
get_drop (suc p) (x ∷ xs) j = let e : suc (p + j) ≡ suc p + j = omega arith in get_drop p xs j ∙ ap (slice_get (x ∷ xs)) e

pub drop_first : {A : Type 0} (xs : List A) (p : ℕ) (m : A) → slice_get xs p ≡ Some m → drop p xs ≡ m ∷ drop (suc p) xs
drop_first [] p m e = absurd (none-some m e)
drop_first (x ∷ xs) zero m e = ap (λ z. z ∷ xs) (same_Some x m e)
drop_first (x ∷ xs) (suc p) m e = drop_first xs p m e

pub none_of : {A : Type 0} (xs : List A) → length xs ≡ 0 → xs ≡ []
none_of [] e = refl
none_of (x ∷ xs) e = absurd (omega (arith, e))

pub same_or_not : (a b : ℕ) → (a ≡ b) ⊎ ((a ≡ b) → ⊥)
same_or_not zero zero = inl refl
same_or_not zero (suc b) = inr (λ e. omega (arith, e))
same_or_not (suc a) zero = inr (λ e. omega (arith, e))
same_or_not (suc a) (suc b) = by' (same_or_not a b)
  where
    by' : (a ≡ b) ⊎ ((a ≡ b) → ⊥) → (suc a ≡ suc b) ⊎ ((suc a ≡ suc b) → ⊥)
    by' (inl e) = inl (ap suc e)
    by' (inr n) = inr (λ e. n (omega (arith, e)))

pub max_either : (a b : ℕ) → (max a b ≡ a) ⊎ (max a b ≡ b)
max_either zero b = inr (omega arith)
max_either (suc a) zero = inl (omega arith)
max_either (suc a) (suc b) = by' (max_either a b)
  where
    by' : (max a b ≡ a) ⊎ (max a b ≡ b) → (max (suc a) (suc b) ≡ suc a) ⊎ (max (suc a) (suc b) ≡ suc b)
    by' (inl e) = inl (omega (arith, e))
    by' (inr e) = inr (omega (arith, e))

-- what holds of each element at its place, holds with another that it holds of
pub each_set : {A : Type 0} (P : ℕ → A → Type 0) (xs : List A) (k : ℕ) (y : A) → k < length xs → P k y
    → ((a : ℕ) (m : A) → slice_get xs a ≡ Some m → P a m) → (a : ℕ) (m : A) → slice_get (slice_set xs k y) a ≡ Some m → P a m
each_set P xs k y lt p f a m e = by' (same_or_not a k)
  where
    by' : (a ≡ k) ⊎ ((a ≡ k) → ⊥) → P a m
    by' (inl q) =
        subst (λ z. P z m) (sym q) (subst (P k) (same_Some y m (sym (get_set xs k y lt) ∙ (ap (slice_get (slice_set xs k y)) (sym q) ∙ e))) p)
    by' (inr n) = f a m (sym (get_other xs k a y n) ∙ e)

pub none_past : {A : Type 0} (xs : List A) (i : ℕ) → slice_get xs i ≡ None → length xs ≤ i
none_past [] i e = omega arith
none_past (x ∷ xs) zero e = absurd (none-some x (sym e))
none_past (x ∷ xs) (suc i) e = let h = none_past xs i e in omega (arith, h)
