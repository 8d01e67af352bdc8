-- A mark with its reason keeps the marks sound.
use Rattle.std.proofs.Common.{◌≡◌, ◌⊎◌, refl, sym, ap, subst, ◌∙◌, arith, ℕ, zero, suc, ◌+◌, ◌<◌, List, [], ◌∷◌, ◌++◌, length, Option, Some, None, slice_get, slice_set}
use Rattle.std.proofs.lemmas.Option.{same_Some, none-some, slice_get_within}
use Rattle.std.proofs.lemmas.List.{length-set, length-append}
use mathlib.Core.Logic.{inl, inr}
use Rattle.vg_core.specs.declared.member.Member.{Member}
use Rattle.vg_core.specs.declared.member.Member.TheVariants.{Method, Field, Cell}
use Rattle.vg_core.specs.declared.heap.Heap.{Heap}
use Rattle.vg_core.specs.Program.{Program}
use Rattle.vg_live.specs.declared.live_set.Reason.{Reason}
use Rattle.vg_live.specs.declared.live_set.LiveSet.{LiveSet}
use Rattle.vg_live.specs.Rules.{Rule, IsThere}
use Rattle.vg_live.specs.Sets.{flat, reason_of, IsIn, IsBefore, IsReason}
use Rattle.vg_reach_marks.specs.Marked.{Marked, marked, entry_of, with_member, with_reason, set_with, none_in, unmarked}
use Rattle.vg_reach_marks.specs.Growing.{Sound, Grows, Goes, AreIn, Drawn, Draws}
use Rattle.vg_reach_marks.proofs.Order.{get_front, get_last, get_either, get_set, get_other, same_or_not, same_member}

-- ---- one reason more

none_set : (rs : List (Option Reason)) (i : ℕ) (r : Reason) → slice_get rs i ≡ Some None → none_in (slice_set rs i (Some r)) + 1 ≡ none_in rs
none_set [] i r e = absurd (none-some _ e)
none_set (None ∷ rs) zero r e = omega arith
none_set (Some q ∷ rs) zero r e = absurd (none-some q (sym (same_Some (Some q) None e)))
none_set (None ∷ rs) (suc i) r e = let z = none_set rs i r e in omega (arith, z)
none_set (Some q ∷ rs) (suc i) r e = none_set rs i r e

one_less : (s : LiveSet) (x : Member) (r : Reason) → entry_of s x ≡ Some None → unmarked (set_with x r s) + 1 ≡ unmarked s
one_less s (Method m) r e = let z = none_set s.methods m r e in omega (arith, z)
one_less s (Field f) r e = let z = none_set s.fields f r e in omega (arith, z)
one_less s (Cell k) r e = let z = none_set s.cells k r e in omega (arith, z)

here : (s : LiveSet) (x : Member) (r : Reason) → entry_of s x ≡ Some None → reason_of (set_with x r s) x ≡ Some r
here s (Method m) r e = ap flat (get_set s.methods m (Some r) (slice_get_within s.methods m None e))
here s (Field f) r e = ap flat (get_set s.fields f (Some r) (slice_get_within s.fields f None e))
here s (Cell k) r e = ap flat (get_set s.cells k (Some r) (slice_get_within s.cells k None e))

others : (s : LiveSet) (x y : Member) (r : Reason) → ((y ≡ x) → ⊥) → reason_of (set_with x r s) y ≡ reason_of s y
others s (Method m) (Method j) r n = ap flat (get_other s.methods m j (Some r) (λ e. n (ap Method e)))
others s (Field m) (Field j) r n = ap flat (get_other s.fields m j (Some r) (λ e. n (ap Field e)))
others s (Cell m) (Cell j) r n = ap flat (get_other s.cells m j (Some r) (λ e. n (ap Cell e)))
others s (Method m) (Field j) r n = refl
others s (Method m) (Cell j) r n = refl
others s (Field m) (Method j) r n = refl
others s (Field m) (Cell j) r n = refl
others s (Cell m) (Method j) r n = refl
others s (Cell m) (Field j) r n = refl

-- there is as much room as before
record SameRoom (s t : LiveSet) : Type 0 where
  methods : length t.methods ≡ length s.methods
  fields : length t.fields ≡ length s.fields
  cells : length t.cells ≡ length s.cells

room : (s : LiveSet) (x : Member) (r : Reason) → SameRoom s (set_with x r s)
room s (Method m) r = record { methods = length-set s.methods m (Some r); fields = refl; cells = refl }
room s (Field f) r = record { methods = refl; fields = length-set s.fields f (Some r); cells = refl }
room s (Cell k) r = record { methods = refl; fields = refl; cells = length-set s.cells k (Some r) }

-- ---- premises

before_kept : (s t : LiveSet) (n : ℕ) (x : Option Member) → ((y : Member) (r : Reason) → reason_of s y ≡ Some r → reason_of t y ≡ Some r)
    → IsBefore s n x → IsBefore t n x
before_kept s t n None k h = tt
before_kept s t n (Some x) k (r, e, lt) = (r, k x r e, lt)

before_all : (p : Program) (h : Heap) (a : Marked) → Sound p h a → (x : Option Member) → AreIn a x → IsBefore a.set (length a.order) x
before_all p h a q None i = tt
before_all p h a q (Some x) (r, e) = (r, e, slice_get_within a.order r.rank x (q.ranks x r e))

-- ---- a mark

module _ (p : Program) (h : Heap) (a b : Marked) (x : Member) (rule : ℕ) (from also : Option Member) where
  abbrev reason : Reason
  reason = record { rule = rule; rank = length a.order; from = from; also = also }

  -- it has its first mark
  module _ (open' : entry_of a.set x ≡ Some None) (is : b ≡ with_reason x reason (with_member x a)) (q : Sound p h a) (by : Rule p h x rule from also) (hf : AreIn a from) (ha : AreIn a also) where
    set : b.set ≡ set_with x reason a.set
    set = ap (λ z. z.set) is

    order : b.order ≡ a.order ++ x ∷ []
    order = ap (λ z. z.order) is

    its : reason_of b.set x ≡ Some reason
    its = ap (λ z. reason_of z x) set ∙ here a.set x reason open'

    no_reason : (y : Member) → entry_of a.set y ≡ Some None → reason_of a.set y ≡ None
    no_reason (Method m) e = ap flat e
    no_reason (Field f) e = ap flat e
    no_reason (Cell k) e = ap flat e

    either : (y : Member) → (reason_of b.set y ≡ reason_of a.set y) ⊎ (y ≡ x)
    either y = by' (same_member y x)
      where
        by' : (y ≡ x) ⊎ ((y ≡ x) → ⊥) → (reason_of b.set y ≡ reason_of a.set y) ⊎ (y ≡ x)
        by' (inl e) = inr e
        by' (inr n) = inl (ap (λ z. reason_of z y) set ∙ others a.set x y reason n)

    kept : (y : Member) (u : Reason) → reason_of a.set y ≡ Some u → reason_of b.set y ≡ Some u
    kept y u e = by' (either y)
      where
        by' : (reason_of b.set y ≡ reason_of a.set y) ⊎ (y ≡ x) → reason_of b.set y ≡ Some u
        by' (inl z) = z ∙ e
        by' (inr z) = absurd (none-some u (sym (no_reason x open') ∙ (ap (reason_of a.set) (sym z) ∙ e)))

    why : (y : Member) (u : Reason) → reason_of b.set y ≡ Some u → (reason_of b.set y ≡ reason_of a.set y) ⊎ (y ≡ x) → IsReason p h b.set y u
    why y u e (inl z) = let w = q.reasons y u (sym z ∙ e) in (w.0, before_kept a.set b.set u.rank u.from kept w.1, before_kept a.set b.set u.rank u.also kept w.2)
    why y u e (inr z) =
        subst (IsReason p h b.set y) (same_Some reason u (sym its ∙ (ap (reason_of b.set) (sym z) ∙ e)))
        (subst (λ v. Rule p h v rule from also) (sym z) by, before_kept a.set b.set (length a.order) from kept (before_all p h a q from hf), before_kept a.set b.set (length a.order) also kept (before_all p h a q also ha))

    rank : (y : Member) (u : Reason) → reason_of b.set y ≡ Some u → (reason_of b.set y ≡ reason_of a.set y) ⊎ (y ≡ x) → slice_get b.order u.rank ≡ Some y
    rank y u e (inl z) = ap (λ o. slice_get o u.rank) order ∙ get_front a.order x y u.rank (q.ranks y u (sym z ∙ e))
    rank y u e (inr z) =
        ap (λ o. slice_get o u.rank) order
        ∙ (ap (λ v. slice_get (a.order ++ x ∷ []) v.rank) (same_Some u reason (sym e ∙ (ap (reason_of b.set) z ∙ its))) ∙ (get_last a.order x ∙ ap Some (sym z)))

    at_order : (i : ℕ) (y : Member) → (slice_get a.order i ≡ Some y) ⊎ ((i ≡ length a.order) × (x ≡ y)) → (r : Reason) × (reason_of b.set y ≡ Some r) × (r.rank ≡ i)
    at_order i y (inl e) = let z = q.ordered i y e in (z.0, kept y z.0 z.1, z.2)
    at_order i y (inr (c, d)) = (reason, ap (reason_of b.set) (sym d) ∙ its, sym c)

    is_there : (y : Member) → entry_of a.set y ≡ Some None → IsThere p h y
    is_there (Method m) e = let l = slice_get_within a.set.methods m None e in omega (arith, l, q.methods)
    is_there (Field f) e = let l = slice_get_within a.set.fields f None e in omega (arith, l, q.fields)
    is_there (Cell k) e = let l = slice_get_within a.set.cells k None e in omega (arith, l, q.cells)

    there : (y : Member) (u : Reason) → reason_of b.set y ≡ Some u → (reason_of b.set y ≡ reason_of a.set y) ⊎ (y ≡ x) → IsThere p h y
    there y u e (inl z) = q.there y u (sym z ∙ e)
    there y u e (inr z) = subst (IsThere p h) (sym z) (is_there x open')

    same_room : SameRoom a.set b.set
    same_room = subst (SameRoom a.set) (sym set) (room a.set x reason)

    left : unmarked b.set + length b.order ≡ unmarked a.set + length a.order
    left =
        let less = one_less a.set x reason open' in
        let more = ap length order ∙ length-append a.order (x ∷ []) in
        let same = ap unmarked set in
        omega (arith, less, more, same)

    pub first_mark : Goes p h a b × Drawn p h b x
    first_mark = (
      (
        record {
          reasons = λ y u e. why y u e (either y);
          there = λ y u e. there y u e (either y);
          ranks = λ y u e. rank y u e (either y);
          ordered = λ i y e. at_order i y (get_either a.order x y i (sym (ap (λ o. slice_get o i) order) ∙ e));
          methods = same_room.methods ∙ q.methods;
          fields = same_room.fields ∙ q.fields;
          cells = same_room.cells ∙ q.cells;
        },
        record { kept = kept; order = λ i y e. ap (λ o. slice_get o i) order ∙ get_front a.order x y i e; left = left },
      ),
      λ t. (reason, its),
    )

-- a member that has no mark gets one
pub marks_first : (a b c : Marked) (x : Member) (rule rank : ℕ) (from also : Option Member) → rank ≡ length a.order → entry_of a.set x ≡ Some None
    → c ≡ with_member x a → b ≡ with_reason x (record { rule = rule; rank = rank; from = from; also = also }) c → Draws a b x rule from also
marks_first a b c x rule rank from also er open' ec eb p h q by hf ha =
    first_mark p h a b x rule from also open'
    ((eb ∙ ap (with_reason x (record { rule = rule; rank = rank; from = from; also = also })) ec)
    ∙ ap (λ n. with_reason x (record { rule = rule; rank = n; from = from; also = also }) (with_member x a)) er) q by hf ha

-- marks that stay
pub stays : (p : Program) (h : Heap) (a : Marked) → Sound p h a → Goes p h a a
stays p h a q = (q, record { kept = λ y r e. e; order = λ i y e. e; left = refl })

pub none_past : {A : Type 0} (xs : List A) (n : ℕ) → n < length xs → slice_get xs n ≡ None → ⊥
none_past [] n lt e = omega (arith, lt)
none_past (x ∷ xs) zero lt e = none-some x (sym e)
none_past (x ∷ xs) (suc n) lt e = none_past xs n (omega (arith, lt)) e

nowhere : (p : Program) (h : Heap) (a : Marked) → Sound p h a → (y : Member) → entry_of a.set y ≡ None → IsThere p h y → ⊥
nowhere p h a q (Method m) e t = none_past a.set.methods m (omega (arith, t, q.methods)) e
nowhere p h a q (Field f) e t = none_past a.set.fields f (omega (arith, t, q.fields)) e
nowhere p h a q (Cell k) e t = none_past a.set.cells k (omega (arith, t, q.cells)) e

-- a member that is not there gets none
pub marks_nothing : (a : Marked) (x : Member) (rule : ℕ) (from also : Option Member) → entry_of a.set x ≡ None → Draws a a x rule from also
marks_nothing a x rule from also e p h q by hf ha = (stays p h a q, λ t. absurd (nowhere p h a q x e t))

pub goes_then : (p : Program) (h : Heap) (a b c : Marked) → Goes p h a b → Goes p h b c → Goes p h a c
goes_then p h a b c (sb, gb) (sc, gc) =
    (sc, record { kept = λ x r e. gc.kept x r (gb.kept x r e); order = λ i x e. gc.order i x (gb.order i x e); left = gc.left ∙ gb.left })

pub in_still : (p : Program) (h : Heap) (a b : Marked) (x : Member) → Goes p h a b → IsIn a.set x → IsIn b.set x
in_still p h a b x (q, g) (r, e) = (r, g.kept x r e)

pub are_still : (p : Program) (h : Heap) (a b : Marked) (x : Option Member) → Goes p h a b → AreIn a x → AreIn b x
are_still p h a b None g e = tt
are_still p h a b (Some x) g e = in_still p h a b x g e

pub drawn_still : (p : Program) (h : Heap) (a b : Marked) (x : Member) → Goes p h a b → Drawn p h a x → Drawn p h b x
drawn_still p h a b x g d t = in_still p h a b x g (d t)

-- what a loop has done so far, for the numbers below n: `Given` is known before the loop, `Done` is what came of it
abbrev pub SoFar : Program → Heap → (Marked → ℕ → Type 0) → (Marked → ℕ → Type 0) → Marked → Marked → ℕ → Type 0
SoFar p h Given Done s a n = Goes p h s a × ((k : ℕ) → k < n → Given s k → Done a k)

pub so_far : (p : Program) (h : Heap) (Given Done : Marked → ℕ → Type 0) → ((s t : Marked) (k : ℕ) → Goes p h s t → Given s k → Given t k)
    → ((s t : Marked) (k : ℕ) → Goes p h s t → Done s k → Done t k)
    → (s a b : Marked) (n : ℕ) → SoFar p h Given Done s a n → Goes p h a b × (Given a n → Done b n) → SoFar p h Given Done s b (n + 1)
so_far p h Given Done up keep s a b n (g, d) (g2, d2) = (goes_then p h s a b g g2, λ k lt e. by' k lt e (same_or_not k n))
  where
    by' : (k : ℕ) → k < n + 1 → Given s k → (k ≡ n) ⊎ ((k ≡ n) → ⊥) → Done b k
    by' k lt e (inl kn) = subst (λ z. Done b z) (sym kn) (d2 (up s a n g (subst (λ z. Given s z) kn e)))
    by' k lt e (inr ne) = keep a b k g2 (d k (omega (arith, lt, ne)) e)
