-- The largest sum over the roots so far.
use Rattle.std.proofs.Common.{◌≡◌, ◌⊎◌, refl, sym, ap, subst, ◌∙◌, arith, ℕ, ◌+◌, ◌<◌, ◌≤◌, max, List, [], ◌∷◌, length, Some, slice_get}
use Rattle.std.proofs.lemmas.Option.{same_Some, slice_get_within}
use mathlib.Core.Logic.{inl, inr}
use Rattle.vg_bound.specs.declared.root.Root.{Root}
use Rattle.vg_bound.specs.Graph.{IsPath, cost, HasCycle, IsLargest, IsRoot}
use Rattle.vg_bound.specs.Searched.{Searched}
use Rattle.vg_bound.specs.Searching.{Ends, IsDone}
use Rattle.vg_bound.specs.Kept.{graph}
use Rattle.vg_bound.proofs.Lists.{same_or_not, max_either, none_of}
use Rattle.vg_bound.proofs.Paths.{no_cycle}

-- n is the largest sum over the first roots, and from none of these a cycle is reached
pub record SoFar (frames : List ℕ) (calls : List (List ℕ)) (roots : List Root) (i n : ℕ) : Type 0 where
  pub most : (j : ℕ) (r : Root) (behind : List ℕ) → j < i → slice_get roots j ≡ Some r → IsPath calls r.node behind
      → r.extra + cost frames (r.node ∷ behind) ≤ n
  pub ended : (j : ℕ) (r : Root) → j < i → slice_get roots j ≡ Some r → Ends calls r.node
  pub reached : ((i ≡ 0) × (n ≡ 0))
      ⊎ ((j : ℕ) × (r : Root) × (behind : List ℕ) × (slice_get roots j ≡ Some r) × IsPath calls r.node behind × (r.extra + cost frames (r.node ∷ behind) ≡ n))

module _ (frames : List ℕ) (calls : List (List ℕ)) (roots : List Root) where
  pub so_far_none : SoFar frames calls roots 0 0
  so_far_none = record {
    most = λ j r behind lt e p. absurd (omega (arith, lt));
    ended = λ j r lt e. absurd (omega (arith, lt));
    reached = inl (refl, refl);
  }

  module _ (i n c : ℕ) (r : Root) (at : slice_get roots i ≡ Some r) (d : IsDone frames calls r.node c) (f : SoFar frames calls roots i n) where
    its_most : (j : ℕ) (x : Root) (behind : List ℕ) → j < i + 1 → slice_get roots j ≡ Some x → IsPath calls x.node behind → (j ≡ i) ⊎ ((j ≡ i) → ⊥)
        → x.extra + cost frames (x.node ∷ behind) ≤ max n (r.extra + c)
    its_most j x behind lt e p (inl q) =
        let same : r ≡ x = same_Some r x (sym at ∙ (ap (slice_get roots) (sym q) ∙ e)) in
        let m = d.most behind (subst (λ z. IsPath calls z.node behind) (sym same) p) in
        let k = ap (λ z. z.extra + cost frames (z.node ∷ behind)) same in
        omega (arith, m, k)
    its_most j x behind lt e p (inr q) = let m = f.most j x behind (omega (arith, lt, q)) e p in omega (arith, m)

    its_end : (j : ℕ) (x : Root) → j < i + 1 → slice_get roots j ≡ Some x → (j ≡ i) ⊎ ((j ≡ i) → ⊥) → Ends calls x.node
    its_end j x lt e (inl q) = subst (λ z. Ends calls z.node) (same_Some r x (sym at ∙ (ap (slice_get roots) (sym q) ∙ e))) d.ended
    its_end j x lt e (inr q) = f.ended j x (omega (arith, lt, q)) e

    abbrev Way : (n : ℕ) → Type 0
    Way n = (j : ℕ) × (x : Root) × (behind : List ℕ) × (slice_get roots j ≡ Some x) × IsPath calls x.node behind × (x.extra + cost frames (x.node ∷ behind) ≡ n)

    by_new : max n (r.extra + c) ≡ r.extra + c → Way (max n (r.extra + c))
    by_new m = let w = d.reached in (i, r, w.0, at, w.1, let k = w.2 in omega (arith, k, m))

    its_way : (max n (r.extra + c) ≡ n) ⊎ (max n (r.extra + c) ≡ r.extra + c) → ((i ≡ 0) × (n ≡ 0)) ⊎ Way n → Way (max n (r.extra + c))
    its_way (inr m) o = by_new m
    its_way (inl m) (inl (z, y)) = by_new (omega (arith, y))
    its_way (inl m) (inr (j, x, behind, e, p, q)) = (j, x, behind, e, p, q ∙ sym m)

    pub so_far_more : SoFar frames calls roots (i + 1) (max n (r.extra + c))
    so_far_more = record {
      most = λ j x behind lt e p. its_most j x behind lt e p (same_or_not j i);
      ended = λ j x lt e. its_end j x lt e (same_or_not j i);
      reached = inr (its_way (max_either n (r.extra + c)) f.reached);
    }

  module _ (s : Searched) (i n : ℕ) (past : length roots ≤ i) (f : SoFar frames calls roots i n) where
    within : (j : ℕ) (r : Root) → slice_get roots j ≡ Some r → j < i
    within j r e = let w = slice_get_within roots j r e in omega (arith, w, past)

    pub largest_is : IsLargest (graph frames calls roots s 0) n
    largest_is = record {
      most = λ r behind h p. f.most h.0 r behind (within h.0 r h.1) h.1 p;
      reached = by' f.reached;
    }
      where
        by' : ((i ≡ 0) × (n ≡ 0))
            ⊎ ((j : ℕ) × (r : Root) × (behind : List ℕ) × (slice_get roots j ≡ Some r) × IsPath calls r.node behind × (r.extra + cost frames (r.node ∷ behind) ≡ n))
            → ((roots ≡ []) × (n ≡ 0))
            ⊎ ((r : Root) × (behind : List ℕ) × IsRoot (graph frames calls roots s 0) r × IsPath calls r.node behind × (r.extra + cost frames (r.node ∷ behind) ≡ n))
        by' (inl (z, y)) = inl (none_of roots (omega (arith, z, past)), y)
        by' (inr (j, r, behind, e, p, q)) = inr (r, behind, (j, e), p, q)

    pub no_cycle_is : HasCycle (graph frames calls roots s 0) → ⊥
    no_cycle_is (r, b, c, h, x, e, y) = no_cycle calls r.node b c (f.ended h.0 r (within h.0 r h.1) h.1) x e y
