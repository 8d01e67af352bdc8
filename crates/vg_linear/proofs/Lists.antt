-- What stands at a place of a list: where it is one behind another, or goes with another one, item by item.
use Rattle.std.proofs.Common.{◌≡◌, refl, sym, ap, subst, arith, ℕ, zero, suc, ◌+◌, ◌<◌, List, [], ◌∷◌, ◌++◌, length, map, take, drop, Some, slice_get, get_or}
use Rattle.std.specs.List.{AllByRecursion, AllZip}
use Rattle.std.proofs.lemmas.Option.{same_Some, none-some}

pub get_left : {A : Type 0} (xs ys : List A) (i : ℕ) (x : A) → slice_get xs i ≡ Some x → slice_get (xs ++ ys) i ≡ Some x
get_left [] ys i x e = absurd (none-some x e)
get_left (z ∷ xs) ys zero x e = e
get_left (z ∷ xs) ys (suc i) x e = get_left xs ys i x e

pub get_right : {A : Type 0} (xs ys : List A) (n i : ℕ) → n ≡ length xs + i → slice_get (xs ++ ys) n ≡ slice_get ys i
get_right [] ys n i e = let z : n ≡ i = omega (arith, e) in ap (slice_get ys) z
get_right (z ∷ xs) ys zero i e = absurd (omega (arith, e))
get_right (z ∷ xs) ys (suc n) i e = get_right xs ys n i (omega (arith, e))

pub get_at : {A : Type 0} (xs : List A) (i : ℕ) (x : A) → i < length xs → x ≡ get_or xs i x → slice_get xs i ≡ Some x
get_at [] i x lt e = absurd (omega (arith, lt))
get_at (z ∷ xs) zero x lt e = ap Some (sym e)
get_at (z ∷ xs) (suc i) x lt e = get_at xs i x (omega (arith, lt)) e

-- what stands in a list whose items were taken from another one
pub from_map : {A B : Type 0} (f : A → B) (xs : List A) (i : ℕ) (y : B) → slice_get (map f xs) i ≡ Some y → (x : A) × (slice_get xs i ≡ Some x) × (f x ≡ y)
from_map f [] i y e = absurd (none-some y e)
from_map f (x ∷ xs) zero y e = (x, refl, same_Some (f x) y e)
from_map f (x ∷ xs) (suc i) y e = from_map f xs i y e

-- each of all
pub one_of : {A : Type 0} (P : A → Type 0) (xs : List A) (i : ℕ) (x : A) → AllByRecursion P xs → slice_get xs i ≡ Some x → P x
one_of P [] i x a e = absurd (none-some x e)
one_of P (y ∷ xs) zero x (h, a) e = subst P (same_Some y x e) h
one_of P (y ∷ xs) (suc i) x (h, a) e = one_of P xs i x a e

-- all but the first
pub all_rest : {A : Type 0} (P : A → Type 0) (xs : List A) (i n : ℕ) → n ≡ i + 1 → AllByRecursion P (drop i xs) → AllByRecursion P (drop n xs)
all_rest P xs i zero e a = absurd (omega (arith, e))
all_rest P [] zero (suc n) e a = tt
all_rest P [] (suc i) (suc n) e a = tt
all_rest P (x ∷ xs) zero (suc zero) e (h, a) = a
all_rest P (x ∷ xs) zero (suc (suc n)) e a = absurd (omega (arith, e))
all_rest P (x ∷ xs) (suc i) (suc n) e a = all_rest P xs i n (omega (arith, e)) a

-- what goes with an item
pub zip_at : {A B : Type 0} (R : A → B → Type 0) (xs : List A) (ys : List B) → AllZip R xs ys → (i : ℕ) (x : A) → slice_get xs i ≡ Some x
    → (y : B) × (slice_get ys i ≡ Some y) × R x y
zip_at R [] ys a i x e = absurd (none-some x e)
zip_at R (z ∷ xs) [] a i x e = absurd a
zip_at R (z ∷ xs) (y ∷ ys) (h, a) zero x e = (y, refl, subst (λ w. R w y) (same_Some z x e) h)
zip_at R (z ∷ xs) (y ∷ ys) (h, a) (suc i) x e = zip_at R xs ys a i x e

-- one item more
pub zip_more : {A B C : Type 0} (R : B → C → Type 0) (f : A → B) (xs : List A) (i n : ℕ) (x : A) (ys : List C) (y : C) → n ≡ i + 1 → i < length xs
    → x ≡ get_or xs i x → AllZip R (map f (take i xs)) ys → R (f x) y → AllZip R (map f (take n xs)) (ys ++ y ∷ [])
zip_more R f [] i n x ys y en lt e a r = absurd (omega (arith, lt))
zip_more R f (z ∷ xs) i zero x ys y en lt e a r = absurd (omega (arith, en))
zip_more R f (z ∷ xs) zero (suc zero) x [] y en lt e a r = (subst (λ w. R (f w) y) e r, tt)
zip_more R f (z ∷ xs) zero (suc (suc n)) x ys y en lt e a r = absurd (omega (arith, en))
zip_more R f (z ∷ xs) zero (suc n) x (w ∷ ys) y en lt e a r = absurd a
zip_more R f (z ∷ xs) (suc i) (suc n) x [] y en lt e a r = absurd a
zip_more R f (z ∷ xs) (suc i) (suc n) x (w ∷ ys) y en lt e (h, a) r = (h, zip_more R f xs i n x ys y (omega (arith, en)) (omega (arith, lt)) e a r)
