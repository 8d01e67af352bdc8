-- What stands where in lists.
use Rattle.std.proofs.Common.{◌≡◌, ◌<◌, ℕ, zero, suc, List, [], ◌∷◌, ◌++◌, length, Some, refl, ap, ◌∙◌, arith}
use Rattle.std.specs.List.{slice_get, AllByRecursion}
use Rattle.std.proofs.lemmas.Option.{slice_get_within}

-- a longer list has at its front what the list has
pub front : {A : Type 0} (xs ys : List A) (k : ℕ) → k < length xs → slice_get (xs ++ ys) k ≡ slice_get xs k
front [] ys k h = absurd (omega (arith, h))
front (x ∷ xs) ys zero h = refl
front (x ∷ xs) ys (suc k) h = front xs ys k (omega (arith, h))

-- what stands at a number stands there in a longer list
pub still_there : {A : Type 0} (xs ys : List A) (k : ℕ) (x : A) → slice_get xs k ≡ Some x → slice_get (xs ++ ys) k ≡ Some x
still_there xs ys k x e = front xs ys k (slice_get_within xs k x e) ∙ e

-- the one behind a list stands at its length
pub behind : {A : Type 0} (xs : List A) (x : A) (k : ℕ) → k ≡ length xs → slice_get (xs ++ x ∷ []) k ≡ Some x
behind [] x k e = ap (slice_get (x ∷ [])) e
behind (y ∷ xs) x zero e = absurd (omega (arith, e))
behind (y ∷ xs) x (suc k) e = behind xs x k (omega (arith, e))

-- what holds of all of a list, and of the one behind it
pub one_behind : {A : Type 0} (P : A → Type 0) (xs : List A) (x : A) → AllByRecursion P xs → P x → AllByRecursion P (xs ++ x ∷ [])
one_behind P [] x h p = (p, tt)
one_behind P (y ∷ xs) x (q, h) p = (q, one_behind P xs x h p)
