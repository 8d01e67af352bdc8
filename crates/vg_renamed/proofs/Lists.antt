-- Lists whose elements are mapped.
use Rattle.std.proofs.Common.{◌≡◌, ℕ, zero, suc, List, [], ◌∷◌, ◌++◌, map, take, drop, reverse, replicate}
use Rattle.std.proofs.Common.{slice_set}
use Rattle.std.proofs.Common.{refl, ap, ◌∙◌, append_assoc}
use Rattle.std.proofs.lemmas.List.{reverse-append}
use Rattle.vg_core.specs.State.{onto}

pub set_map : {A B : Type 0} (f : A → B) (xs : List A) (k : ℕ) (a : A) → slice_set (map f xs) k (f a) ≡ map f (slice_set xs k a)
set_map f [] k a = refl
set_map f (x ∷ xs) zero a = refl
set_map f (x ∷ xs) (suc k) a = ap (λ z. f x ∷ z) (set_map f xs k a)

pub take_map : {A B : Type 0} (f : A → B) (k : ℕ) (xs : List A) → take k (map f xs) ≡ map f (take k xs)
take_map f zero xs = refl
take_map f (suc k) [] = refl
take_map f (suc k) (x ∷ xs) = ap (λ z. f x ∷ z) (take_map f k xs)

pub drop_map : {A B : Type 0} (f : A → B) (k : ℕ) (xs : List A) → drop k (map f xs) ≡ map f (drop k xs)
drop_map f zero xs = refl
drop_map f (suc k) [] = refl
drop_map f (suc k) (x ∷ xs) = drop_map f k xs

pub onto_map : {A B : Type 0} (f : A → B) (xs acc : List A) → reverse (map f xs) ++ map f acc ≡ map f (onto xs acc)
onto_map f [] acc = refl
onto_map f (x ∷ xs) acc =
    ap (λ z. z ++ map f acc) (reverse-append (f x ∷ []) (map f xs)) ∙ append_assoc (reverse (map f xs)) (f x ∷ []) (map f acc) ∙ onto_map f xs (x ∷ acc)

pub map_replicate : {A B : Type 0} (f : A → B) (k : ℕ) (a : A) → replicate k (f a) ≡ map f (replicate k a)
map_replicate f zero a = refl
map_replicate f (suc k) a = ap (λ z. f a ∷ z) (map_replicate f k a)
