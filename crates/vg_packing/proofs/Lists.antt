-- Lists of kept values.
use Rattle.std.proofs.Common.{append_assoc, ◌≡◌, refl, sym, ap, subst, ◌∙◌, ℕ, zero, suc, List, [], ◌∷◌, ◌++◌, map, take, drop, reverse, Some, slice_get}
use Rattle.std.proofs.Common.{slice_set}
use Rattle.std.proofs.lemmas.Option.{same_Some, none-some}
use Rattle.std.proofs.lemmas.List.{map-append, reverse-append}
use Rattle.vg_core.specs.declared.value.CoreValue.{CoreValue}
use Rattle.vg_core.specs.State.{onto}
use Rattle.vg_coded.specs.Kept.{IsKept}
use Rattle.vg_packing.specs.Layout.{Layout}
use Rattle.vg_packing.specs.Packs.{AreKept}

pub kept_get : (l : Layout) (vs : List CoreValue) (i : ℕ) (v : CoreValue) → AreKept l vs → slice_get vs i ≡ Some v → IsKept l.numbering v
kept_get l [] i v a e = absurd (none-some v e)
kept_get l (x ∷ vs) zero v (a, r) e = subst (IsKept l.numbering) (same_Some x v e) a
kept_get l (x ∷ vs) (suc i) v (a, r) e = kept_get l vs i v r e

pub kept_append : (l : Layout) (vs us : List CoreValue) → AreKept l vs → AreKept l us → AreKept l (vs ++ us)
kept_append l [] us a b = b
kept_append l (x ∷ vs) us (a, r) b = (a, kept_append l vs us r b)

pub kept_take : (l : Layout) (n : ℕ) (vs : List CoreValue) → AreKept l vs → AreKept l (take n vs)
kept_take l zero vs a = tt
kept_take l (suc n) [] a = tt
kept_take l (suc n) (x ∷ vs) (a, r) = (a, kept_take l n vs r)

pub kept_drop : (l : Layout) (n : ℕ) (vs : List CoreValue) → AreKept l vs → AreKept l (drop n vs)
kept_drop l zero vs a = a
kept_drop l (suc n) [] a = tt
kept_drop l (suc n) (x ∷ vs) (a, r) = kept_drop l n vs r

pub kept_set : (l : Layout) (vs : List CoreValue) (i : ℕ) (v : CoreValue) → AreKept l vs → IsKept l.numbering v → AreKept l (slice_set vs i v)
kept_set l [] i v a b = tt
kept_set l (x ∷ vs) zero v (a, r) b = (b, r)
kept_set l (x ∷ vs) (suc i) v (a, r) b = (a, kept_set l vs i v r b)

pub kept_onto : (l : Layout) (vs us : List CoreValue) → AreKept l vs → AreKept l us → AreKept l (onto vs us)
kept_onto l [] us a b = b
kept_onto l (v ∷ vs) us (a, r) b = kept_onto l vs (v ∷ us) r (a, b)

-- a list the other way round, in front of another
pub onto_is : {A : Type 0} (xs acc : List A) → onto xs acc ≡ reverse xs ++ acc
onto_is [] acc = refl
onto_is (x ∷ xs) acc = onto_is xs (x ∷ acc) ∙ (sym (append_assoc (reverse xs) (x ∷ []) acc) ∙ ap (λ z. z ++ acc) (sym (reverse-append (x ∷ []) xs)))

pub map_reverse : {A B : Type 0} (g : A → B) (xs : List A) → map g (reverse xs) ≡ reverse (map g xs)
map_reverse g [] = refl
map_reverse g (x ∷ xs) =
    ap (map g) (reverse-append (x ∷ []) xs)
    ∙ (map-append g (reverse xs) (x ∷ []) ∙ (ap (λ z. z ++ g x ∷ []) (map_reverse g xs) ∙ sym (reverse-append (g x ∷ []) (map g xs))))
