-- A search that has seen no node, and what a search from all roots leaves.
use Rattle.std.proofs.Common.{◌≡◌, refl, sym, ap, subst, ◌∙◌, arith, ℕ, zero, suc, ◌^◌, ◌<◌, ◌≤◌, List, [], drop, get_or, length, replicate, sum, Some, None, slice_get}
use Rattle.std.proofs.lemmas.Option.{none-some, same_Some, slice_get_within}
use Rattle.std.proofs.lemmas.List.{length-replicate}
use Rattle.vg_bound.specs.declared.mark.Mark.{Mark}
use Rattle.vg_bound.specs.declared.mark.Mark.TheVariants.{Unseen}
use Rattle.vg_bound.specs.declared.root.Root.{Root}
use Rattle.vg_bound.specs.declared.walk.Found.TheVariants.{Closed}
use Rattle.vg_bound.specs.Graph.{IsKeptCycle}
use Rattle.vg_bound.specs.Searched.{Searched, begun, place_of}
use Rattle.vg_bound.specs.Searching.{IsSearching, IsStacked, IsKnown, total, opens, told}
use Rattle.vg_bound.specs.Kept.{graph, IsSound, IsOutcome}
use Rattle.vg_bound.proofs.Cycles.{kept_cycle}

all_unseen : (n a : ℕ) (m : Mark) → slice_get (replicate n Unseen) a ≡ Some m → Unseen ≡ m
all_unseen zero a m e = absurd (none-some m e)
all_unseen (suc n) zero m e = same_Some Unseen m e
all_unseen (suc n) (suc a) m e = all_unseen n a m e

none_placed : (n a : ℕ) → place_of (slice_get (replicate n Unseen) a) ≡ None
none_placed zero a = refl
none_placed (suc n) zero = refl
none_placed (suc n) (suc a) = none_placed n a

none_open : (f : ℕ → Mark → ℕ) → ((k : ℕ) → f k Unseen ≡ 0) → (n : ℕ) → total f (replicate n Unseen) ≡ 0
none_open f h zero = refl
none_open f h (suc n) = let z = none_open (λ j. f (suc j)) (λ j. h (suc j)) n in let y = h 0 in omega (arith, z, y)

stacked_begun : (n : ℕ) → IsStacked (replicate n Unseen) []
stacked_begun n = record { placed = λ i a h. absurd (none-some a h); opened = λ a i h. absurd (none-some i (sym (none_placed n a) ∙ h)) }

searching_begun : (frames : List ℕ) (calls : List (List ℕ)) (n : ℕ) → n ≡ length frames → IsSearching frames calls (begun n)
searching_begun frames calls n e = record {
  nodes = length-replicate n Unseen ∙ e;
  room = e;
  stacked = stacked_begun n;
  known = λ a m h. subst (IsKnown frames calls a) (all_unseen n a m h) tt;
  paid = λ a m h. let t = ap told (all_unseen n a m h) in omega (arith, t);
  along = λ i a b h g. absurd (none-some a h);
  few = none_open opens (λ k. refl) n;
}

pub begins : (frames fr : List ℕ) (calls cl : List (List ℕ)) (roots : List Root) (s t : Searched) → IsSound frames calls roots s
    → fr ≡ frames → cl ≡ calls → t ≡ begun (length s.marks) → IsSearching fr cl t
begins frames fr calls cl roots s t q e f g =
    subst (λ z. IsSearching z cl t) (sym e) (subst (λ z. IsSearching frames z t) (sym f)
    (subst (IsSearching frames calls) (sym g) (searching_begun frames calls (length s.marks) q.nodes)))

pub keeps : (frames fr : List ℕ) (calls cl : List (List ℕ)) (roots ro : List Root) (s : Searched) (p m : ℕ) → fr ≡ frames → cl ≡ calls → ro ≡ roots
    → IsSearching fr cl s → IsOutcome fr cl ro s (Closed p) → slice_get s.stack p ≡ Some m
    → (behind : List ℕ) × IsKeptCycle (graph frames calls roots s p) m behind
keeps frames fr calls cl roots ro s p m e f g q o at =
    subst (λ z. (behind : List ℕ) × IsKeptCycle (graph z calls roots s p) m behind) e (
    subst (λ z. (behind : List ℕ) × IsKeptCycle (graph fr z roots s p) m behind) f (
    subst (λ z. (behind : List ℕ) × IsKeptCycle (graph fr cl z s p) m behind) g
    (drop (suc p) s.stack, kept_cycle fr cl ro s p m o.0 q o.1 o.2 o.3 at)))

pub closed_within : (fr : List ℕ) (cl : List (List ℕ)) (ro : List Root) (s : Searched) (p : ℕ) → IsOutcome fr cl ro s (Closed p) → p < length s.stack
closed_within fr cl ro s p o = slice_get_within s.stack p o.3.1 o.3.4

no_edge : (n a k b : ℕ) → slice_get (get_or (replicate n []) a []) k ≡ Some b → ⊥
no_edge zero a k b e = none-some b e
no_edge (suc n) zero k b e = none-some b e
no_edge (suc n) (suc a) k b e = no_edge n a k b e

sound_bare : (frames : List ℕ) → length frames ≤ 65536 → sum frames ≤ 2 ^ 48
    → IsSound frames (replicate (length frames) []) [] (begun (length frames))
sound_bare frames few small = record {
  shaped = record {
    nodes = length-replicate (length frames) [];
    few = few;
    small = small;
    targets = λ a b e. absurd (no_edge (length frames) a e.0 b e.1);
  };
  roots_ = record { nodes = λ i r e. absurd (none-some r e); small = λ i r e. absurd (none-some r e) };
  nodes = length-replicate (length frames) Unseen;
  room = refl;
  stacked = stacked_begun (length frames);
}

pub sound_begun : (frames fr : List ℕ) (calls : List (List ℕ)) (roots : List Root) (s : Searched) → fr ≡ frames → calls ≡ replicate (length frames) []
    → roots ≡ [] → s ≡ begun (length frames) → length frames ≤ 65536 → sum frames ≤ 2 ^ 48 → IsSound fr calls roots s
sound_begun frames fr calls roots s e f g h few small =
    subst (λ z. IsSound z calls roots s) (sym e) (subst (λ z. IsSound frames z roots s) (sym f) (
    subst (λ z. IsSound frames (replicate (length frames) []) z s) (sym g) (
    subst (IsSound frames (replicate (length frames) []) []) (sym h) (sound_bare frames few small))))
