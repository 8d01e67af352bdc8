-- A list seen element by element: those so far, one, and the rest.
use Rattle.std.proofs.Common.{◌≡◌, ℕ, ◌+◌, ◌<◌, suc, List, [], ◌∷◌, ◌++◌, map, length, take, drop, get_or, sym, ap, ◌∙◌, drop-cons}
use Rattle.std.specs.List.{AllByRecursion}
use Rattle.std.proofs.lemmas.List.{map-append, take-append-drop, take_more}

pub row_at : {A B : Type 0} (view : A → B) (xs : List A) (i : ℕ) (d : A) → i < length xs
    → map view xs ≡ map view (take i xs) ++ view (get_or xs i d) ∷ map view (drop (suc i) xs)
row_at view xs i d h =
    ap (map view) (sym (take-append-drop i xs)) ∙ map-append view (take i xs) (drop i xs)
    ∙ ap (λ l. map view (take i xs) ++ map view l) (drop-cons xs i d h)

pub row_more : {A B : Type 0} (view : A → B) (xs : List A) (i : ℕ) (d : A) → i < length xs
    → map view (take (i + 1) xs) ≡ map view (take i xs) ++ view (get_or xs i d) ∷ []
row_more view xs i d h = ap (map view) (take_more xs i d h) ∙ map-append view (take i xs) (get_or xs i d ∷ [])

pub holds_at : {B : Type 0} (P : B → Type 0) (done : List B) (x : B) (rest : List B) → AllByRecursion P (done ++ x ∷ rest) → P x
holds_at P [] x rest h = h.0
holds_at P (y ∷ ys) x rest h = holds_at P ys x rest h.1

pub holds_one_more : {B : Type 0} (P : B → Type 0) (done : List B) (x : B) → AllByRecursion P done → P x → AllByRecursion P (done ++ x ∷ [])
holds_one_more P [] x h p = (p, tt)
holds_one_more P (y ∷ ys) x h p = (h.0, holds_one_more P ys x h.1 p)
