-- A text keeps its name however many texts get one later.
use Rattle.std.proofs.Common.{◌≡◌, ℕ, suc, ◌+◌, ◌≤◌, Bool, true, false, List, [], ◌∷◌, ◌++◌, length, length-append, Some, refl, sym, ap, ◌∙◌, subst, arith}
use Rattle.std.proofs.Common.{append_assoc, append-nil, slice_get, cond}
use Rattle.std.specs.Prelude.{if◌then◌else◌, not, ◌||◌}
use Rattle.std.specs.List.{list_any}
use Rattle.std.specs.Str.{bytes_eq}
use Rattle.std.proofs.lemmas.Slice.Eq.{bytes_eq-Decides}
use Rattle.vg_base.specs.Names.{number_of, with_text}
use Rattle.vg_tree.specs.Held.{text_at, text_or_none}
use Rattle.vg_reader.specs.Grown.{Grown}

pub grown_none : (old : List (List ℕ)) → Grown old old
grown_none old = ([], sym (append-nil old))

pub grown_twice : (a b c : List (List ℕ)) → Grown a b → Grown b c → Grown a c
grown_twice a b c g h = (g.0 ++ h.0, h.1 ∙ ap (λ l. l ++ h.0) g.1 ∙ append_assoc a g.0 h.0)

pub grown_one : (text : List ℕ) (old : List (List ℕ)) → Grown old (with_text text old)
grown_one text old = by_test (list_any (bytes_eq text) old)
  where
    by_test : (p : Bool) → Grown old (if p then old else old ++ text ∷ [])
    by_test true = grown_none old
    by_test false = (text ∷ [], refl)

pub one_more : (text : List ℕ) (old : List (List ℕ)) → length (with_text text old) ≤ length old + 1
one_more text old = by_test (list_any (bytes_eq text) old)
  where
    by_test : (p : Bool) → length (if p then old else old ++ text ∷ []) ≤ length old + 1
    by_test true = omega arith
    by_test false = let l = length-append old (text ∷ []) in omega (arith, l)

-- a text that is held now
pub held_one : (text : List ℕ) (old new : List (List ℕ)) → new ≡ with_text text old → Grown old new × (length new ≤ length old + 1)
held_one text old new e = (subst (Grown old) (sym e) (grown_one text old), subst (λ l. length l ≤ length old + 1) (sym e) (one_more text old))

behind_first : (t text : List ℕ) (old : List (List ℕ)) (p : Bool) → (if p then t ∷ old else t ∷ old ++ text ∷ []) ≡ t ∷ (if p then old else old ++ text ∷ [])
behind_first t text old true = refl
behind_first t text old false = refl

found : (text : List ℕ) (old more : List (List ℕ)) → slice_get (with_text text old ++ more) (number_of text old) ≡ Some text
found text [] more = refl
found text (t ∷ old) more = by_test (bytes_eq text t) refl (found text old more)
  where
    by_test : (p : Bool) → bytes_eq text t ≡ p → slice_get (with_text text old ++ more) (number_of text old) ≡ Some text
        → slice_get ((if p || list_any (bytes_eq text) old then t ∷ old else t ∷ old ++ text ∷ []) ++ more) (cond (not p) (1 + number_of text old) 0)
        ≡ Some text
    by_test true e h = ap Some (sym ((bytes_eq-Decides text t).0 e))
    by_test false e h =
        let next : 1 + number_of text old ≡ suc (number_of text old) = omega arith in
        ap (λ l. slice_get (l ++ more) (1 + number_of text old)) (behind_first t text old (list_any (bytes_eq text) old))
        ∙ ap (slice_get (t ∷ (with_text text old ++ more))) next ∙ h

pub text_found : (text : List ℕ) (old new texts : List (List ℕ)) (name : ℕ) → new ≡ with_text text old → name ≡ number_of text old → Grown new texts
    → text_at texts name ≡ text
text_found text old new texts name e n g =
    ap (λ i. text_at texts i) n ∙ ap (λ l. text_at l (number_of text old)) (g.1 ∙ ap (λ l. l ++ g.0) e) ∙ ap text_or_none (found text old g.0)
