-- Tests and what they say.
use Rattle.std.proofs.Common.{◌≡◌, ℕ, ◌<◌, ◌≤◌, length, get_or, slice_get, false, List, Option, Some, None, is_some}
use Rattle.std.proofs.Common.{refl, sym, ap, ◌∙◌}
use Rattle.std.proofs.lemmas.Option.{slice_get_past, slice_get-get_or}

pub none_of : {A : Type 0} (o : Option A) → false ≡ is_some o → o ≡ None
none_of None e = refl
none_of (Some x) e = cc

pub not_none : {A : Type 0} {X : Type 0} (o : Option A) (x : A) → o ≡ None → o ≡ Some x → X
not_none o x e f = let k : None ≡ Some x = sym e ∙ f in cc

-- what stands at a place
pub entry_at : {A : Type 0} (xs ys : List A) (i j : ℕ) (o : Option A) → o ≡ slice_get xs i → xs ≡ ys → i ≡ j → slice_get ys j ≡ o
entry_at xs ys i j o e f g = sym (e ∙ ap (λ z. slice_get z i) f ∙ ap (slice_get ys) g)

pub some_at : {A : Type 0} (xs : List A) (i : ℕ) (v : A) → i < length xs → v ≡ get_or xs i v → Some v ≡ slice_get xs i
some_at xs i v l e = ap Some e ∙ sym (slice_get-get_or xs i v l)

pub none_at : {A : Type 0} (xs : List A) (i : ℕ) → length xs ≤ i → None ≡ slice_get xs i
none_at xs i l = sym (slice_get_past xs i l)
