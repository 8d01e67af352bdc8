-- Lists of one word, of two, and of none.
use Rattle.std.proofs.Common.{◌≡◌, ℕ, List, [], ◌∷◌, Option, Some, None, refl, ap, ◌∙◌}
use Rattle.std.specs.Prelude.{slice_get}
use Rattle.vg_words.specs.Items.{one, two}
use Rattle.vg_words.specs.Commands.{at_most_once}

pub none_of_one : (ws : List (List ℕ)) → None ≡ slice_get ws 0 → None ≡ one ws
none_of_one [] e = refl
none_of_one (a ∷ ws) e = cc

pub one_of_one : (ws : List (List ℕ)) (w : List ℕ) → Some w ≡ slice_get ws 0 → None ≡ slice_get ws 1 → Some w ≡ one ws
one_of_one [] w e f = cc
one_of_one (a ∷ []) w e f = e
one_of_one (a ∷ b ∷ ws) w e f = cc

pub more_than_one : (ws : List (List ℕ)) (w : List ℕ) → Some w ≡ slice_get ws 1 → None ≡ one ws
more_than_one [] w e = refl
more_than_one (a ∷ []) w e = cc
more_than_one (a ∷ b ∷ ws) w e = refl

pub less_than_two : (ws : List (List ℕ)) → None ≡ slice_get ws 1 → None ≡ two ws
less_than_two [] e = refl
less_than_two (a ∷ []) e = refl
less_than_two (a ∷ b ∷ ws) e = cc

pub none_of_two : (ws : List (List ℕ)) → None ≡ slice_get ws 0 → None ≡ two ws
none_of_two [] e = refl
none_of_two (a ∷ ws) e = cc

pub two_of_two : (ws : List (List ℕ)) (v w : List ℕ) → Some v ≡ slice_get ws 0 → Some w ≡ slice_get ws 1 → None ≡ slice_get ws 2 → Some (v, w) ≡ two ws
two_of_two [] v w e f g = cc
two_of_two (a ∷ []) v w e f g = cc
two_of_two (a ∷ b ∷ []) v w e f g =
    let h : v ≡ a = cc in
    let i : w ≡ b = cc in
    ap (λ x. Some (x, w)) h ∙ ap (λ x. Some (a, x)) i
two_of_two (a ∷ b ∷ d ∷ ws) v w e f g = cc

pub more_than_two : (ws : List (List ℕ)) (w : List ℕ) → Some w ≡ slice_get ws 2 → None ≡ two ws
more_than_two [] w e = refl
more_than_two (a ∷ []) w e = cc
more_than_two (a ∷ b ∷ []) w e = cc
more_than_two (a ∷ b ∷ d ∷ ws) w e = refl

pub given_once : {A : Type 0} (absent : Option A) (read : List ℕ → Option A) (vs : List (List ℕ)) (v : List ℕ) → Some v ≡ slice_get vs 0
    → None ≡ slice_get vs 1 → read v ≡ at_most_once absent read vs
given_once absent read [] v e f = cc
given_once absent read (a ∷ []) v e f = let h : v ≡ a = cc in ap read h
given_once absent read (a ∷ b ∷ vs) v e f = cc
