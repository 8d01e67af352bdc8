-- A stack with one node more, one less, or another visit of one.
use Rattle.std.proofs.Common.{◌≡◌, ◌⊎◌, refl, sym, ap, subst, ◌∙◌, arith, ℕ, zero, suc, ◌-◌, ◌<◌, List, [], ◌∷◌, ◌++◌, length, take, Some, slice_get, slice_set}
use Rattle.std.proofs.lemmas.Option.{none-some, same_Some, slice_get_within}
use mathlib.Core.Logic.{inl, inr}
use Rattle.vg_bound.specs.declared.mark.Visit.{Visit}
use Rattle.vg_bound.specs.declared.mark.Mark.{Mark}
use Rattle.vg_bound.specs.declared.mark.Mark.TheVariants.{Unseen, Open, Done}
use Rattle.vg_bound.specs.Graph.{HasEdge}
use Rattle.vg_bound.specs.Searched.{place_of, first_visit}
use Rattle.vg_bound.specs.Searching.{IsStacked, IsTop, BeginsWith}
use Rattle.vg_bound.proofs.Lists.{get_front, get_last, get_either, get_set, get_other, get_take, take_below, take_get, same_or_not}

-- ---- one node more

module _ (ms : List Mark) (stack : List ℕ) (b : ℕ) (unseen : slice_get ms b ≡ Some Unseen) (st : IsStacked ms stack) where
  abbrev opened_mark : Mark
  opened_mark = Open (first_visit (length stack))

  abbrev after : List Mark
  after = slice_set ms b opened_mark

  its_place : place_of (slice_get after b) ≡ Some (length stack)
  its_place = ap place_of (get_set ms b opened_mark (slice_get_within ms b Unseen unseen))

  new_node : (i a : ℕ) → slice_get stack i ≡ Some a → (a ≡ b) → ⊥
  new_node i a h q = none-some i (sym (ap place_of unseen) ∙ (ap (λ z. place_of (slice_get ms z)) (sym q) ∙ st.placed i a h))

  placed_more : (i a : ℕ) → (slice_get stack i ≡ Some a) ⊎ ((i ≡ length stack) × (b ≡ a)) → place_of (slice_get after a) ≡ Some i
  placed_more i a (inl h) = ap place_of (get_other ms b a opened_mark (new_node i a h)) ∙ st.placed i a h
  placed_more i a (inr (l, q)) = ap (λ z. place_of (slice_get after z)) (sym q) ∙ (its_place ∙ ap Some (sym l))

  opened_more : (a i : ℕ) → place_of (slice_get after a) ≡ Some i → (a ≡ b) ⊎ ((a ≡ b) → ⊥) → slice_get (stack ++ b ∷ []) i ≡ Some a
  opened_more a i e (inl q) =
      let l = same_Some (length stack) i (sym its_place ∙ (ap (λ z. place_of (slice_get after z)) (sym q) ∙ e)) in
      ap (slice_get (stack ++ b ∷ [])) (sym l) ∙ (get_last stack b ∙ ap Some (sym q))
  opened_more a i e (inr n) = get_front stack b a i (st.opened a i (sym (ap place_of (get_other ms b a opened_mark n)) ∙ e))

  pub stacked_more : IsStacked after (stack ++ b ∷ [])
  stacked_more = record {
    placed = λ i a e. placed_more i a (get_either stack b a i e);
    opened = λ a i e. opened_more a i e (same_or_not a b);
  }

-- ---- another visit of a node

module _ (ms : List Mark) (stack : List ℕ) (a : ℕ) (v w : Visit) (is : slice_get ms a ≡ Some (Open v)) (same : w.place ≡ v.place) (st : IsStacked ms stack) where
  same_place : (j : ℕ) → (j ≡ a) ⊎ ((j ≡ a) → ⊥) → place_of (slice_get (slice_set ms a (Open w)) j) ≡ place_of (slice_get ms j)
  same_place j (inl q) =
      ap (λ z. place_of (slice_get (slice_set ms a (Open w)) z)) q
      ∙ (ap place_of (get_set ms a (Open w) (slice_get_within ms a (Open v) is))
      ∙ (ap Some same ∙ (sym (ap place_of is) ∙ ap (λ z. place_of (slice_get ms z)) (sym q))))
  same_place j (inr n) = ap place_of (get_other ms a j (Open w) n)

  pub stacked_still : IsStacked (slice_set ms a (Open w)) stack
  stacked_still = record {
    placed = λ i b e. same_place b (same_or_not b a) ∙ st.placed i b e;
    opened = λ b i e. st.opened b i (sym (same_place b (same_or_not b a)) ∙ e);
  }

-- ---- one node less

module _ (ms : List Mark) (stack : List ℕ) (a c : ℕ) (v : Visit) (is : slice_get ms a ≡ Some (Open v)) (top : IsTop stack a) (st : IsStacked ms stack) where
  abbrev last : ℕ
  last = length stack - 1

  its_last : place_of (slice_get ms a) ≡ Some last
  its_last = st.placed last a top

  other : (i x : ℕ) → slice_get stack i ≡ Some x → i < last → (x ≡ a) → ⊥
  other i x h lt q =
      let e = same_Some i last (sym (st.placed i x h) ∙ (ap (λ z. place_of (slice_get ms z)) q ∙ its_last)) in
      omega (arith, e, lt)

  earlier : (i x : ℕ) → slice_get stack i ≡ Some x → ((x ≡ a) → ⊥) → (i ≡ last) ⊎ ((i ≡ last) → ⊥) → i < last
  earlier i x h n (inl q) = absurd (n (same_Some x a (sym h ∙ (ap (slice_get stack) q ∙ top))))
  earlier i x h n (inr m) = let w = slice_get_within stack i x h in omega (arith, w, m)

  opened_less : (x i : ℕ) → place_of (slice_get (slice_set ms a (Done c)) x) ≡ Some i → (x ≡ a) ⊎ ((x ≡ a) → ⊥) → slice_get (take last stack) i ≡ Some x
  opened_less x i e (inl q) = absurd (none-some i (
      sym (ap place_of (get_set ms a (Done c) (slice_get_within ms a (Open v) is))) ∙ (ap (λ z. place_of (slice_get (slice_set ms a (Done c)) z)) (sym q) ∙ e)
      ))
  opened_less x i e (inr n) =
      let h = st.opened x i (sym (ap place_of (get_other ms a x (Done c) n)) ∙ e) in
      take_get last stack i x (earlier i x h n (same_or_not i last)) h

  pub stacked_less : IsStacked (slice_set ms a (Done c)) (take last stack)
  stacked_less = record {
    placed = λ i x e. let h = get_take last stack i x e in
        ap place_of (get_other ms a x (Done c) (other i x h (take_below last stack i x e))) ∙ st.placed i x h;
    opened = λ x i e. opened_less x i e (same_or_not x a);
  }

-- ---- the stack as a path

module _ (calls : List (List ℕ)) (stack : List ℕ) (along : (i a b : ℕ) → slice_get stack i ≡ Some a → slice_get stack (suc i) ≡ Some b → HasEdge calls a b) where
  along_both : (b : ℕ) → ((a : ℕ) → IsTop stack a → HasEdge calls a b) → (i x y : ℕ)
      → (slice_get stack i ≡ Some x) ⊎ ((i ≡ length stack) × (b ≡ x)) → (slice_get stack (suc i) ≡ Some y) ⊎ ((suc i ≡ length stack) × (b ≡ y)) → HasEdge calls x y
  along_both b f i x y (inl g) (inl h) = along i x y g h
  along_both b f i x y (inr (l, q)) (inl h) = let w = slice_get_within stack (suc i) y h in absurd (omega (arith, w, l))
  along_both b f i x y (inl g) (inr (l, q)) =
      let k : i ≡ length stack - 1 = omega (arith, l) in
      subst (HasEdge calls x) q (f x (ap (slice_get stack) (sym k) ∙ g))
  along_both b f i x y (inr (l, q)) (inr (m, r)) = absurd (omega (arith, l, m))

  pub along_more : (b : ℕ) → ((a : ℕ) → IsTop stack a → HasEdge calls a b) → (i x y : ℕ)
      → slice_get (stack ++ b ∷ []) i ≡ Some x → slice_get (stack ++ b ∷ []) (suc i) ≡ Some y → HasEdge calls x y
  along_more b f i x y e g = along_both b f i x y (get_either stack b x i e) (get_either stack b y (suc i) g)

  pub along_less : (n i x y : ℕ) → slice_get (take n stack) i ≡ Some x → slice_get (take n stack) (suc i) ≡ Some y → HasEdge calls x y
  along_less n i x y e g = along i x y (get_take n stack i x e) (get_take n stack (suc i) y g)

pub begins_more : (root b : ℕ) (stack : List ℕ) → 0 < length stack → BeginsWith root stack → BeginsWith root (stack ++ b ∷ [])
begins_more root b stack lt f a e = by' (get_either stack b a 0 e)
  where
    by' : (slice_get stack 0 ≡ Some a) ⊎ ((0 ≡ length stack) × (b ≡ a)) → a ≡ root
    by' (inl h) = f a h
    by' (inr (l, q)) = absurd (omega (arith, lt, l))

pub begins_less : (root n : ℕ) (stack : List ℕ) → BeginsWith root stack → BeginsWith root (take n stack)
begins_less root n stack f a e = f a (get_take n stack 0 a e)

-- what has a place on the stack has a mark
pub placed_within : (ms : List Mark) (a i : ℕ) → place_of (slice_get ms a) ≡ Some i → a < length ms
placed_within [] a i e = absurd (none-some i e)
placed_within (m ∷ ms) zero i e = omega arith
placed_within (m ∷ ms) (suc a) i e = let h = placed_within ms a i e in omega (arith, h)

-- and is open
pub must_be_open : (m : Mark) (i : ℕ) → place_of (Some m) ≡ Some i → ((v : Visit) → m ≡ Open v → ⊥) → ⊥
must_be_open Unseen i e n = none-some i e
must_be_open (Open v) i e n = n v refl
must_be_open (Done c) i e n = none-some i e
