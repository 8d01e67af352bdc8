-- Paths, what is reached, and what comes to an end.
use Rattle.std.proofs.Common.{◌≡◌, ◌⊎◌, refl, sym, ap, subst, ◌∙◌, arith, ℕ, ◌+◌, ◌<◌, ◌≤◌, max, List, [], ◌∷◌, get_or, length, Some, slice_get}
use Rattle.std.proofs.lemmas.Option.{same_Some, slice_get_within}
use mathlib.Core.Logic.{inl, inr}
use Rattle.vg_bound.specs.declared.mark.Visit.{Visit}
use Rattle.vg_bound.specs.Graph.{HasEdge, IsPath, cost, last_of, Reaches, here, on}
use Rattle.vg_bound.specs.Searched.{looked, first_visit}
use Rattle.vg_bound.specs.Searching.{Ends, ends, IsDone, IsLooked}
use Rattle.vg_bound.proofs.Lists.{same_or_not, max_either}

pub reaches_last : (calls : List (List ℕ)) (a b : ℕ) (behind : List ℕ) → Reaches calls a b → IsPath calls b behind → Reaches calls a (last_of b behind)
reaches_last calls a b [] r p = r
reaches_last calls a b (c ∷ rest) r (e, p) = reaches_last calls a c rest (on r e) p

-- what is reached by at least one edge is reached behind a first edge
first_edge : (calls : List (List ℕ)) (a x z : ℕ) → Reaches calls a x → HasEdge calls x z → (b : ℕ) × HasEdge calls a b × Reaches calls b z
first_edge calls a x z here e = (z, e, here)
first_edge calls a x z (on {b = y} r d) e = let f = first_edge calls a y x r d in (f.0, f.1, on f.2 e)

end_behind : (calls : List (List ℕ)) (a b : ℕ) → Ends calls a → HasEdge calls a b → Ends calls b
end_behind calls a b (ends f) e = f b e

end_reached : (calls : List (List ℕ)) (a b : ℕ) → Ends calls a → Reaches calls a b → Ends calls b
end_reached calls a b h here = h
end_reached calls a b h (on {b = y} r d) = end_behind calls y b (end_reached calls a y h r) d

no_way_back : (calls : List (List ℕ)) (a : ℕ) → Ends calls a → (x : ℕ) → Reaches calls a x → HasEdge calls x a → ⊥
no_way_back calls a (ends f) x r e =
    let z = first_edge calls a x a r e in
    no_way_back calls z.0 (f z.0 z.1) a z.2 z.1

-- where all paths come to an end no cycle is reached
pub no_cycle : (calls : List (List ℕ)) (a b c : ℕ) → Ends calls a → Reaches calls a b → HasEdge calls b c → Reaches calls c b → ⊥
no_cycle calls a b c h r d s = no_way_back calls c (end_behind calls b c (end_reached calls a b h r) d) b s d

-- ---- edges that were looked at

pub none_looked : (frames : List ℕ) (calls : List (List ℕ)) (a place : ℕ) → IsLooked frames calls a (first_visit place)
none_looked frames calls a place = record {
  within = omega arith;
  ended = λ k b lt e. absurd (omega (arith, lt));
  most = λ k b behind lt e p. absurd (omega (arith, lt));
  reached = inl refl;
}

pub one_looked : (frames : List ℕ) (calls : List (List ℕ)) (a b c : ℕ) (v : Visit) → slice_get (get_or calls a []) v.next ≡ Some b → IsDone frames calls b c
    → IsLooked frames calls a v → IsLooked frames calls a (looked c v)
one_looked frames calls a b c v at d l = record {
  within = let w = slice_get_within (get_or calls a []) v.next b at in omega (arith, w);
  ended = λ k x lt e. its_end k x lt e (same_or_not k v.next);
  most = λ k x behind lt e p. its_most k x behind lt e p (same_or_not k v.next);
  reached = its_way (max_either v.most c) l.reached;
}
  where
    same : (k x : ℕ) → slice_get (get_or calls a []) k ≡ Some x → k ≡ v.next → b ≡ x
    same k x e q = same_Some b x (sym at ∙ (ap (slice_get (get_or calls a [])) (sym q) ∙ e))

    its_end : (k x : ℕ) → k < v.next + 1 → slice_get (get_or calls a []) k ≡ Some x → (k ≡ v.next) ⊎ ((k ≡ v.next) → ⊥) → Ends calls x
    its_end k x lt e (inl q) = subst (Ends calls) (same k x e q) d.ended
    its_end k x lt e (inr n) = l.ended k x (omega (arith, lt, n)) e

    its_most : (k x : ℕ) (behind : List ℕ) → k < v.next + 1 → slice_get (get_or calls a []) k ≡ Some x → IsPath calls x behind
        → (k ≡ v.next) ⊎ ((k ≡ v.next) → ⊥) → cost frames (x ∷ behind) ≤ max v.most c
    its_most k x behind lt e p (inl q) =
        let r = d.most behind (subst (λ z. IsPath calls z behind) (sym (same k x e q)) p) in
        let s = ap (λ z. cost frames (z ∷ behind)) (same k x e q) in
        omega (arith, r, s)
    its_most k x behind lt e p (inr n) = let r = l.most k x behind (omega (arith, lt, n)) e p in omega (arith, r)

    its_way : (max v.most c ≡ v.most) ⊎ (max v.most c ≡ c)
        → (v.most ≡ 0) ⊎ ((y : ℕ) × (behind : List ℕ) × HasEdge calls a y × IsPath calls y behind × (cost frames (y ∷ behind) ≡ v.most))
        → (max v.most c ≡ 0) ⊎ ((y : ℕ) × (behind : List ℕ) × HasEdge calls a y × IsPath calls y behind × (cost frames (y ∷ behind) ≡ max v.most c))
    its_way (inr m) o = let w = d.reached in inr (b, w.0, (v.next, at), w.1, w.2 ∙ sym m)
    its_way (inl m) (inl z) = inl (m ∙ z)
    its_way (inl m) (inr (y, behind, e, p, q)) = inr (y, behind, e, p, q ∙ sym m)

-- behind its last edge a node is done
pub all_looked : (frames : List ℕ) (calls : List (List ℕ)) (a c : ℕ) (v : Visit) → length (get_or calls a []) ≤ v.next → c ≡ v.most + get_or frames a 0
    → IsLooked frames calls a v → IsDone frames calls a c
all_looked frames calls a c v past is l = record {
  ended = ends (λ b h. l.ended h.0 b (below h.0 b h.1) h.1);
  most = its_most;
  reached = its_way l.reached;
}
  where
    below : (k b : ℕ) → slice_get (get_or calls a []) k ≡ Some b → k < v.next
    below k b e = let w = slice_get_within (get_or calls a []) k b e in omega (arith, w, past)

    its_most : (behind : List ℕ) → IsPath calls a behind → cost frames (a ∷ behind) ≤ c
    its_most [] p = omega (arith, is)
    its_most (b ∷ rest) (h, p) = let r = l.most h.0 b rest (below h.0 b h.1) h.1 p in omega (arith, r, is)

    its_way : (v.most ≡ 0) ⊎ ((y : ℕ) × (behind : List ℕ) × HasEdge calls a y × IsPath calls y behind × (cost frames (y ∷ behind) ≡ v.most))
        → (behind : List ℕ) × IsPath calls a behind × (cost frames (a ∷ behind) ≡ c)
    its_way (inl z) = ([], tt, omega (arith, z, is))
    its_way (inr (y, behind, e, p, q)) = (y ∷ behind, (e, p), omega (arith, q, is))
