-- The stack from a place on as a cycle, and the node behind one on it.
use Rattle.std.proofs.Common.{◌≡◌, ◌⊎◌, refl, sym, ap, subst, ◌∙◌, arith, ℕ, zero, suc, ◌+◌, ◌-◌, ◌<◌, ◌≤◌, ◌==◌, Bool, true, false, if◌then◌else◌, List, [], ◌∷◌, get_or, length, drop, Some, slice_get}
use Rattle.std.proofs.lemmas.Option.{none-some, same_Some, slice_get_within, slice_get-get_or}
use Rattle.std.proofs.lemmas.List.{length-drop}
use Rattle.std.proofs.lemmas.Bool.{eqb-true, eqb-false}
use mathlib.Core.Logic.{inl, inr}
use Rattle.vg_bound.specs.declared.mark.Mark.{Mark}
use Rattle.vg_bound.specs.declared.root.Root.{Root}
use Rattle.vg_bound.specs.Graph.{Graph, HasEdge, IsPath, last_of, Reaches, here, on, IsRoot, HasCycle, IsOnce, IsKeptCycle, IsOn, IsNext, round}
use Rattle.vg_bound.specs.Searched.{Searched, place_of}
use Rattle.vg_bound.specs.Searching.{IsSearching, IsStacked, IsClosed, BeginsWith}
use Rattle.vg_bound.specs.Kept.{graph}
use Rattle.vg_bound.proofs.Lists.{get_drop, drop_first}
use Rattle.vg_bound.proofs.Paths.{reaches_last}

path_along : (calls : List (List ℕ)) (x : ℕ) (xs : List ℕ)
    → ((i a b : ℕ) → slice_get (x ∷ xs) i ≡ Some a → slice_get (x ∷ xs) (suc i) ≡ Some b → HasEdge calls a b) → IsPath calls x xs
path_along calls x [] f = tt
path_along calls x (y ∷ ys) f = (f 0 x y refl refl, path_along calls y ys (λ i. f (suc i)))

-- the stack behind a place is a path from there
path_from : (calls : List (List ℕ)) (stack : List ℕ) (p m : ℕ)
    → ((i a b : ℕ) → slice_get stack i ≡ Some a → slice_get stack (suc i) ≡ Some b → HasEdge calls a b) → slice_get stack p ≡ Some m
    → IsPath calls m (drop (suc p) stack)
path_from calls [] p m f e = absurd (none-some m e)
path_from calls (x ∷ xs) zero m f e = subst (λ z. IsPath calls z xs) (same_Some x m e) (path_along calls x xs f)
path_from calls (x ∷ xs) (suc p) m f e = path_from calls xs p m (λ i. f (suc i)) e

last_here : (x : ℕ) (xs : List ℕ) → slice_get (x ∷ xs) (length xs) ≡ Some (last_of x xs)
last_here x [] = refl
last_here x (y ∷ ys) = last_here y ys

-- and its last node is that on top
last_top : (stack : List ℕ) (p m n : ℕ) → slice_get stack p ≡ Some m → suc n ≡ length stack → slice_get stack n ≡ Some (last_of m (drop (suc p) stack))
last_top [] p m n e l = absurd (none-some m e)
last_top (x ∷ xs) zero m n e l =
    let k : n ≡ length xs = omega (arith, l) in
    ap (slice_get (x ∷ xs)) k ∙ (last_here x xs ∙ ap (λ z. Some (last_of z xs)) (same_Some x m e))
last_top (x ∷ xs) (suc p) m zero e l = let w = slice_get_within xs p m e in absurd (omega (arith, w, l))
last_top (x ∷ xs) (suc p) m (suc n) e l = last_top xs p m n e (omega (arith, l))

-- what stands on the stack is reached from its bottom
reached_at : (calls : List (List ℕ)) (root : ℕ) (stack : List ℕ)
    → ((i a b : ℕ) → slice_get stack i ≡ Some a → slice_get stack (suc i) ≡ Some b → HasEdge calls a b) → BeginsWith root stack
    → (i a : ℕ) → slice_get stack i ≡ Some a → Reaches calls root a
reached_at calls root stack f g zero a e = subst (Reaches calls root) (sym (g a e)) here
reached_at calls root stack f g (suc i) a e =
    let w = slice_get_within stack (suc i) a e in
    let b : ℕ = get_or stack i 0 in
    let h = slice_get-get_or stack i 0 (omega (arith, w)) in
    on (reached_at calls root stack f g i b h) (f i b a h e)

once_from : (ms : List Mark) (stack : List ℕ) (p : ℕ) → IsStacked ms stack → IsOnce (drop p stack)
once_from ms stack p st i j a e f =
    let x = st.placed (p + i) a (sym (get_drop p stack i) ∙ e) in
    let y = st.placed (p + j) a (sym (get_drop p stack j) ∙ f) in
    let z = same_Some (p + i) (p + j) (sym x ∙ y) in
    omega (arith, z)

module _ (frames : List ℕ) (calls : List (List ℕ)) (roots : List Root) (s : Searched) (p : ℕ) where
  pub kept_cycle : (m : ℕ) (r : Root) → IsSearching frames calls s → IsRoot (graph frames calls roots s p) r → BeginsWith r.node s.stack → IsClosed calls s.stack p
      → slice_get s.stack p ≡ Some m → IsKeptCycle (graph frames calls roots s p) m (drop (suc p) s.stack)
  kept_cycle m r q root begins closed e =
      let first = drop_first s.stack p m e in
      let w = slice_get_within s.stack p m e in
      let last = last_top s.stack p m (length s.stack - 1) e (omega (arith, w)) in
      let same = same_Some closed.0 (last_of m (drop (suc p) s.stack)) (sym closed.2 ∙ last) in
      let back = same_Some closed.1 m (sym closed.4 ∙ e) in
      record {
        kept = first;
        path = path_from calls s.stack p m q.along e;
        closed = subst (λ z. HasEdge calls z m) same (subst (HasEdge calls closed.0) back closed.3);
        once = subst IsOnce first (once_from s.marks s.stack p q.stacked);
        reached = (r, root, reached_at calls r.node s.stack q.along begins p m e);
      }

-- a kept cycle is a cycle
pub has_cycle : (g : Graph) (m : ℕ) (behind : List ℕ) → IsKeptCycle g m behind → HasCycle g
has_cycle g m behind k = (
  k.reached.0,
  last_of m behind,
  m,
  k.reached.1,
  reaches_last g.calls k.reached.0.node m behind k.reached.2 k.path,
  k.closed,
  reaches_last g.calls m m behind here k.path,
)

round_either : (i from n : ℕ) → ((i + 1 ≡ n) × (round i from n ≡ from)) ⊎ (((i + 1 ≡ n) → ⊥) × (round i from n ≡ i + 1))
round_either i from n = by' (i + 1 == n) refl
  where
    by' : (b : Bool) → (i + 1 == n) ≡ b
        → ((i + 1 ≡ n) × ((if b then from else i + 1) ≡ from)) ⊎ (((i + 1 ≡ n) → ⊥) × ((if b then from else i + 1) ≡ i + 1))
    by' true e = inl (eqb-true (i + 1) n e, refl)
    by' false e = inr (eqb-false (i + 1) n e, refl)

-- the node behind one on the cycle
pub next_on : (ms : List Mark) (stack : List ℕ) (p a b place : ℕ) → IsStacked ms stack → place_of (slice_get ms a) ≡ Some place → p ≤ place
    → slice_get stack (round place p (length stack)) ≡ Some b → IsNext (drop p stack) a b
next_on ms stack p a b place st is lt e = (
  place - p,
  get_drop p stack (place - p) ∙ (ap (slice_get stack) (omega (arith, lt)) ∙ at),
  get_drop p stack (round (place - p) 0 (length (drop p stack))) ∙ (ap (slice_get stack) turns ∙ e),
)
  where
    at : slice_get stack place ≡ Some a
    at = st.opened a place is

    turns : p + round (place - p) 0 (length (drop p stack)) ≡ round place p (length stack)
    turns =
        let w = slice_get_within stack place a at in
        let l = length-drop p stack in
        by' w l (round_either (place - p) 0 (length (drop p stack))) (round_either place p (length stack))
      where
        by' : place < length stack → length (drop p stack) ≡ length stack - p
            → (((place - p) + 1 ≡ length (drop p stack)) × (round (place - p) 0 (length (drop p stack)) ≡ 0))
            ⊎ ((((place - p) + 1 ≡ length (drop p stack)) → ⊥) × (round (place - p) 0 (length (drop p stack)) ≡ (place - p) + 1))
            → ((place + 1 ≡ length stack) × (round place p (length stack) ≡ p))
            ⊎ (((place + 1 ≡ length stack) → ⊥) × (round place p (length stack) ≡ place + 1))
            → p + round (place - p) 0 (length (drop p stack)) ≡ round place p (length stack)
        by' w l (inl (a1, a2)) (inl (b1, b2)) = omega (arith, a2, b2)
        by' w l (inr (a1, a2)) (inr (b1, b2)) = omega (arith, a2, b2, lt)
        by' w l (inl (a1, a2)) (inr (b1, b2)) = absurd (b1 (omega (arith, a1, l, lt, w)))
        by' w l (inr (a1, a2)) (inl (b1, b2)) = absurd (a1 (omega (arith, b1, l, lt, w)))

-- a node that stands below the cycle, or nowhere, is not on it
pub not_on : (ms : List Mark) (stack : List ℕ) (p a : ℕ) → IsStacked ms stack → ((i : ℕ) → place_of (slice_get ms a) ≡ Some i → i < p)
    → IsOn (drop p stack) a → ⊥
not_on ms stack p a st f (j, e) =
    let h = f (p + j) (st.placed (p + j) a (sym (get_drop p stack j) ∙ e)) in
    omega (arith, h)

pub on_first : (kept : List ℕ) (a b : ℕ) → IsNext kept a b → IsOn kept a
on_first kept a b (i, e, f) = (i, e)
