-- Where each node from which an edge leads costs something, and no way costs more than so much, no cycle is reached: a way could go round as often as it likes.
use Rattle.std.proofs.Common.{◌≡◌, refl, sym, subst, arith, ℕ, zero, suc, ◌+◌, ◌≤◌, List, [], ◌∷◌, ◌++◌}
use Rattle.vg_calls_source.specs.Graphs.{LeadsTo, IsWayTo, HasNoCycle, sum_of}

sums : (x a b c : ℕ) → a ≡ b + c → x + a ≡ (x + b) + c
sums x a b c h = omega (arith, h)

pub sum_both : {A : Type 0} (cost : A → ℕ) (xs ys : List A) → sum_of cost (xs ++ ys) ≡ sum_of cost xs + sum_of cost ys
sum_both cost [] ys = omega arith
sum_both cost (x ∷ xs) ys = sums (cost x) (sum_of cost (xs ++ ys)) (sum_of cost xs) (sum_of cost ys) (sum_both cost xs ys)

module _ {A : Type 0} (Edge : A → A → Type 0) where
  -- a way that goes on
  pub goes_on : (a : A) (xs : List A) (b : A) (ys : List A) (end : A) → LeadsTo Edge a xs b → LeadsTo Edge b ys end → LeadsTo Edge a (xs ++ ys) end
  goes_on a [] b ys end e h = subst (λ z. LeadsTo Edge z ys end) (sym e) h
  goes_on a (x ∷ xs) b ys end (e, g) h = (e, goes_on x xs b ys end g h)

  -- a round, so often
  abbrev rounds : (round : List A) → ℕ → List A
  rounds round zero = []
  rounds round (suc n) = round ++ rounds round n

  leads_round : (a : A) (round : List A) → LeadsTo Edge a round a → (n : ℕ) → LeadsTo Edge a (rounds round n) a
  leads_round a round h zero = refl
  leads_round a round h (suc n) = goes_on a round a (rounds round n) a h (leads_round a round h n)

  one_more : (r all n : ℕ) → 1 ≤ r → n ≤ all → suc n ≤ r + all
  one_more r all n h k = omega (arith, h, k)

  dear : (cost : A → ℕ) (round : List A) → 1 ≤ sum_of cost round → (n : ℕ) → n ≤ sum_of cost (rounds round n)
  dear cost round h zero = omega arith
  dear cost round h (suc n) =
      subst (λ z. suc n ≤ z) (sym (sum_both cost round (rounds round n))) (one_more (sum_of cost round) (sum_of cost (rounds round n)) n h (dear cost round h n))

  -- the first of a round costs something
  some_cost : (a b : ℕ) → 1 ≤ a → 1 ≤ a + b
  some_cost a b h = omega (arith, h)

  later : (x a : ℕ) → 1 ≤ a → 1 ≤ x + a
  later x a h = omega (arith, h)

  module _ (cost : A → ℕ) (paid : (a b : A) → Edge a b → 1 ≤ cost a) where
    -- a round has its first node at its end, from which an edge leads
    ends_dear : (xs : List A) (a b : A) → Edge a b → 1 ≤ sum_of cost (xs ++ a ∷ [])
    ends_dear [] a b e = some_cost (cost a) 0 (paid a b e)
    ends_dear (x ∷ xs) a b e = later (cost x) (sum_of cost (xs ++ a ∷ [])) (ends_dear xs a b e)

    round_dear : (a : A) (xs : List A) → LeadsTo Edge a (xs ++ a ∷ []) a → 1 ≤ sum_of cost (xs ++ a ∷ [])
    round_dear a [] (e, h) = ends_dear [] a a e
    round_dear a (x ∷ xs) (e, h) = ends_dear (x ∷ xs) a x e

module _ {A : Type 0} (Entry : A → Type 0) (Edge : A → A → Type 0) (cost : A → ℕ) (most : ℕ)
    (enough : (way : List A) (end : A) → IsWayTo Entry Edge end way → sum_of cost way ≤ most)
    (paid : (a b : A) → Edge a b → 1 ≤ cost a) where
  way_on : (a : A) (way : List A) (more : List A) (end : A) → IsWayTo Entry Edge a way → LeadsTo Edge a more end → IsWayTo Entry Edge end (way ++ more)
  way_on a [] more end is h = absurd is
  way_on a (x ∷ xs) more end (entry, g) h = (entry, goes_on Edge x xs a more end g h)

  too_dear : (before all : ℕ) → suc most ≤ all → before + all ≤ most → ⊥
  too_dear before all h k = omega (arith, h, k)

  pub no_cycle : HasNoCycle Entry Edge
  no_cycle [] is = is
  no_cycle (a ∷ xs) (round, (way, reached)) =
      let all = rounds Edge (xs ++ a ∷ []) (suc most) in
      let is = way_on a way all a reached (leads_round Edge a (xs ++ a ∷ []) round (suc most)) in
      too_dear (sum_of cost way) (sum_of cost all) (dear Edge cost (xs ++ a ∷ []) (round_dear Edge cost paid a xs round) (suc most))
      (subst (λ z. z ≤ most) (sum_both cost way all) (enough (way ++ all) a is))
