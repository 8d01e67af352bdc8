-- A text has one answer.
-- Where two answers stand at two places, the later one says that some text begins with all before it, which the earlier one
-- denies, or the brackets are not deep there. At one place the two answers deny each other.
use Rattle.std.proofs.Common.{◌≡◌, ℕ, zero, suc, ◌+◌, ◌<◌, ◌≤◌, List, [], ◌∷◌, ◌++◌, length, Option, Some, None, refl, sym, ap, ◌∙◌, subst, arith}
use Rattle.std.proofs.Common.{append_assoc, ◌⊎◌, inl, inr, ⊎_elim, take, drop, slice_get, take-append-drop}
use Rattle.std.specs.Option.{option_and_then}
use Rattle.vg_base.specs.declared.place.Place.{Place}
use Rattle.vg_syntax.specs.declared.token.Token.{Token}
use Rattle.vg_syntax.specs.Parses.{Sentence, Viable, Stops, NoTreeAt, TooDeepAt, Shallow, opened, open_in}
use Rattle.vg_syntax.specs.Faults.{IsText, NoTreeIn, TooDeepIn, place_of, place_or}
use Rattle.vg_scan.proofs.Reading.{only_tokens as one_list}
use Rattle.vg_grammar.proofs.Ends.{no_text}

compare : (i j : ℕ) → (i < j) ⊎ ((i ≡ j) ⊎ (j < i))
compare zero zero = inr (inl refl)
compare zero (suc j) = inl (omega arith)
compare (suc i) zero = inr (inr (omega arith))
compare (suc i) (suc j) = ⊎_elim (λ h. inl (omega (arith, h))) (λ h. ⊎_elim (λ e. inr (inl (ap suc e))) (λ k. inr (inr (omega (arith, k)))) h) (compare i j)

-- a shorter front is the beginning of a longer one
front : (ts : List Token) (m n : ℕ) → m ≤ n → (more : List Token) × (take n ts ≡ take m ts ++ more)
front ts zero n h = (take n ts, refl)
front [] (suc m) zero h = ([], refl)
front [] (suc m) (suc n) h = ([], refl)
front (t ∷ ts) (suc m) zero h = absurd (omega (arith, h))
front (t ∷ ts) (suc m) (suc n) h = let r = front ts m n (omega (arith, h)) in (r.0, ap (λ l. t ∷ l) r.1)

next : (ts : List Token) (i : ℕ) → i < length ts → (t : Token) × (rest : List Token) × (drop i ts ≡ t ∷ rest) × (take (i + 1) ts ≡ take i ts ++ t ∷ [])
next [] i h = absurd (omega (arith, h))
next (t ∷ ts) zero h = (t, ts, refl, refl)
next (t ∷ ts) (suc i) h =
    let r = next ts i (omega (arith, h)) in
    let e : suc i + 1 ≡ suc (i + 1) = omega arith in
    (r.0, r.1, r.2, ap (λ j. take j (t ∷ ts)) e ∙ ap (λ l. t ∷ l) r.3)

past : (ts : List Token) (i : ℕ) → length ts ≤ i → slice_get ts i ≡ None
past [] i h = refl
past (t ∷ ts) zero h = absurd (omega (arith, h))
past (t ∷ ts) (suc i) h = past ts i (omega (arith, h))

whole : (ts : List Token) (i : ℕ) → length ts ≤ i → take i ts ≡ ts
whole [] zero h = refl
whole [] (suc i) h = refl
whole (t ∷ ts) zero h = absurd (omega (arith, h))
whole (t ∷ ts) (suc i) h = ap (λ l. t ∷ l) (whole ts i (omega (arith, h)))

viable_front : (a b : List Token) → Viable (a ++ b) → Viable a
viable_front a b v = (b ++ v.0, subst Sentence (append_assoc a b v.0) v.1)

stopped : (ts : List Token) (i j : ℕ) → i < length ts → i + 1 ≤ j → NoTreeAt ts i → Viable (take j ts) → ⊥
stopped ts i j h k n v =
    let t = next ts i h in
    let f = front ts (i + 1) j k in
    let w : Viable (take (i + 1) ts) = viable_front (take (i + 1) ts) f.0 (subst Viable f.1 v) in
    let s : Stops (take i ts) (t.0 ∷ t.1) = subst (Stops (take i ts)) t.2 n.1 in
    s (subst Viable t.3 w)

open_none : (d : ℕ) (a b : List Token) → open_in d a ≡ None → open_in d (a ++ b) ≡ None
open_none d [] b e = absurd (let clash : Some d ≡ None = e in cc)
open_none d (t ∷ a) b e = by_cases (opened d t.kind) (λ c. open_none c a b) e
  where
    by_cases : (o : Option ℕ) → ((c : ℕ) → open_in c a ≡ None → open_in c (a ++ b) ≡ None) → option_and_then (λ c. open_in c a) o ≡ None
        → option_and_then (λ c. open_in c (a ++ b)) o ≡ None
    by_cases None g f = refl
    by_cases (Some c) g f = g c f

shallow_front : (ts : List Token) (m n : ℕ) → m ≤ n → open_in 0 (take m ts) ≡ None → Shallow (take n ts) → ⊥
shallow_front ts m n h e s =
    let f = front ts m n h in
    let g : open_in 0 (take n ts) ≡ None = ap (open_in 0) f.1 ∙ open_none 0 (take m ts) f.0 e in
    let clash : Some s.0 ≡ None = sym s.1 ∙ g in cc

shallow_whole : (ts : List Token) (m : ℕ) → open_in 0 (take m ts) ≡ None → Shallow ts → ⊥
shallow_whole ts m e s =
    let g : open_in 0 ts ≡ None = ap (open_in 0) (sym (take-append-drop m ts)) ∙ open_none 0 (take m ts) (drop m ts) e in
    let clash : Some s.0 ≡ None = sym s.1 ∙ g in cc

pub no_fault : (bytes : List ℕ) (place : Place) → IsText bytes → NoTreeIn bytes place → ⊥
no_fault bytes place t n =
    let e = one_list bytes t.0 n.0 t.1 n.2 in
    no_text t.0 n.1 (subst (λ l. NoTreeAt l n.1) (sym e) n.3) t.2

pub not_deep : (bytes : List ℕ) (place : Place) → IsText bytes → TooDeepIn bytes place → ⊥
not_deep bytes place t d =
    let e = one_list bytes t.0 d.0 t.1 d.2 in
    shallow_whole d.0 (d.1 + 1) d.3.2 (subst Shallow e t.3)

apart : (ts : List Token) (i j : ℕ) → NoTreeAt ts i → Shallow (take i ts) → TooDeepAt ts j → ⊥
apart ts i j n s d =
    ⊎_elim (λ h. shallow_front ts (j + 1) i (omega (arith, h)) d.2 s)
    (λ h. ⊎_elim (λ k. stopped ts i (j + 1) k (le h) n d.0)
    (λ k. let e : take (j + 1) ts ≡ take i ts = whole ts (j + 1) (longer h k) ∙ sym (whole ts i (length_le k)) in
    let clash : Some s.0 ≡ None = sym s.1 ∙ ap (open_in 0) (sym e) ∙ d.2 in cc)
    (compare i (length ts)))
    (compare j i)
  where
    le : (j ≡ i) ⊎ (i < j) → i + 1 ≤ j + 1
    le (inl e) = omega (arith, e)
    le (inr h) = omega (arith, h)

    length_le : (i ≡ length ts) ⊎ (length ts < i) → length ts ≤ i
    length_le (inl e) = omega (arith, e)
    length_le (inr h) = omega (arith, h)

    longer : (j ≡ i) ⊎ (i < j) → (i ≡ length ts) ⊎ (length ts < i) → length ts ≤ j + 1
    longer h k = let a = le h in let b = length_le k in omega (arith, a, b)

pub one_cause : (bytes : List ℕ) (p q : Place) → NoTreeIn bytes p → TooDeepIn bytes q → ⊥
one_cause bytes p q n d =
    let e = one_list bytes n.0 d.0 n.2 d.2 in
    apart d.0 n.1 d.1 (subst (λ l. NoTreeAt l n.1) e n.3) (subst (λ l. Shallow (take n.1 l)) e n.4) d.3

earlier : (bytes : List ℕ) (ts : List Token) (i j : ℕ) → NoTreeAt ts i → NoTreeAt ts j → i < j → place_of bytes ts i ≡ place_of bytes ts j
earlier bytes ts i j n m h =
    ⊎_elim (λ k. absurd (stopped ts i j k (omega (arith, h)) n m.0)) (λ k. both_past (length_le k)) (compare i (length ts))
  where
    length_le : (i ≡ length ts) ⊎ (length ts < i) → length ts ≤ i
    length_le (inl e) = omega (arith, e)
    length_le (inr g) = omega (arith, g)

    both_past : length ts ≤ i → place_of bytes ts i ≡ place_of bytes ts j
    both_past k = ap (place_or bytes) (past ts i k) ∙ sym (ap (place_or bytes) (past ts j (omega (arith, h, k))))

one_place : (bytes : List ℕ) (ts : List Token) (i j : ℕ) → NoTreeAt ts i → NoTreeAt ts j → place_of bytes ts i ≡ place_of bytes ts j
one_place bytes ts i j n m =
    ⊎_elim (λ h. earlier bytes ts i j n m h) (λ h. ⊎_elim (λ e. ap (place_of bytes ts) e) (λ k. sym (earlier bytes ts j i m n k)) h) (compare i j)

pub one_end : (bytes : List ℕ) (p q : Place) → NoTreeIn bytes p → NoTreeIn bytes q → p ≡ q
one_end bytes p q n m =
    let e = one_list bytes n.0 m.0 n.2 m.2 in
    n.5 ∙ ap (λ l. place_of bytes l n.1) e ∙ one_place bytes m.0 n.1 m.1 (subst (λ l. NoTreeAt l n.1) e n.3) m.3 ∙ sym m.5

one_index : (ts : List Token) (i j : ℕ) → TooDeepAt ts i → TooDeepAt ts j → i ≡ j
one_index ts i j d e =
    ⊎_elim (λ h. absurd (shallow_front ts (i + 1) j (omega (arith, h)) d.2 e.1))
    (λ h. ⊎_elim (λ k. k) (λ k. absurd (shallow_front ts (j + 1) i (omega (arith, k)) e.2 d.1)) h) (compare i j)

pub one_bracket : (bytes : List ℕ) (p q : Place) → TooDeepIn bytes p → TooDeepIn bytes q → p ≡ q
one_bracket bytes p q d f =
    let e = one_list bytes d.0 f.0 d.2 f.2 in
    d.4 ∙ ap (λ l. place_of bytes l d.1) e ∙ ap (place_of bytes f.0) (one_index f.0 d.1 f.1 (subst (λ l. TooDeepAt l d.1) e d.3) f.3) ∙ sym f.4
