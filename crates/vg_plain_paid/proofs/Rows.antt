-- Rows of procedures: those before one, that one, and those behind it.
use Rattle.std.specs.Prelude.{ℕ, zero, suc, ◌≡◌, ◌<◌, List, [], ◌∷◌, ◌++◌, take, drop, length, map, Some, slice_get}
use Rattle.std.specs.List.{AllByRecursion, AllZip}
use Rattle.std.proofs.Common.{refl, ap, arith}

pub split_at : {A : Type 0} → (xs : List A) (y : A) (zs : List A) → (take (length xs) ((xs ++ y ∷ []) ++ zs) ≡ xs)
    × (slice_get ((xs ++ y ∷ []) ++ zs) (length xs) ≡ Some y) × (drop (suc (length xs)) ((xs ++ y ∷ []) ++ zs) ≡ zs)
split_at [] y zs = (refl, refl, refl)
split_at (x ∷ xs) y zs = let h = split_at xs y zs in (ap (λ ws. x ∷ ws) h.0, h.1, h.2)

-- what stands for each of a row, and others behind it
pub each_of_row : {A B : Type 0} → (f : A → B) (xs : List A) (y : A) (zs : List A) (ws : List B)
    → map f ((xs ++ y ∷ []) ++ zs) ++ ws ≡ (map f xs ++ f y ∷ []) ++ (map f zs ++ ws)
each_of_row f [] y zs ws = refl
each_of_row f (x ∷ xs) y zs ws = ap (λ vs. f x ∷ vs) (each_of_row f xs y zs ws)

pub all_of_both : {A : Type 0} → (P : A → Type 0) (xs ys : List A) → AllByRecursion P xs → AllByRecursion P ys → AllByRecursion P (xs ++ ys)
all_of_both P [] ys h g = g
all_of_both P (x ∷ xs) ys (e, h) g = (e, all_of_both P xs ys h g)

-- what stands for a row that ends with one element is a row that ends with what stands for that
pub record Ends {A B : Type 0} (R : A → B → Type 0) (xs : List A) (y : A) (zs : List B) : Type 0 where
  pub front : List B
  pub last : B
  pub both : zs ≡ front ++ last ∷ []
  pub fronts : AllZip R xs front
  pub lasts : R y last

pub ends : {A B : Type 0} → (R : A → B → Type 0) (xs : List A) (y : A) (zs : List B) → AllZip R (xs ++ y ∷ []) zs → Ends R xs y zs
ends R [] y [] h = absurd h
ends R [] y (z ∷ []) h = record { front = []; last = z; both = refl; fronts = tt; lasts = h.0 }
ends R [] y (z ∷ w ∷ zs) h = absurd h.1
ends R (x ∷ xs) y [] h = absurd h
ends R (x ∷ xs) y (z ∷ zs) h =
    let e = ends R xs y zs h.1 in
    record { front = z ∷ e.front; last = e.last; both = ap (λ ws. z ∷ ws) e.both; fronts = (h.0, e.fronts); lasts = e.lasts }

pub as_long : {A B : Type 0} → (R : A → B → Type 0) (xs : List A) (ys : List B) → AllZip R xs ys → length ys ≡ length xs
as_long R [] [] h = refl
as_long R [] (y ∷ ys) h = absurd h
as_long R (x ∷ xs) [] h = absurd h
as_long R (x ∷ xs) (y ∷ ys) h = ap suc (as_long R xs ys h.1)

pub within : {A : Type 0} → (xs : List A) (i : ℕ) (x : A) → slice_get xs i ≡ Some x → i < length xs
within [] i x e = cc
within (y ∷ xs) zero x e = omega arith
within (y ∷ xs) (suc i) x e = let h = within xs i x e in omega (arith, h)
