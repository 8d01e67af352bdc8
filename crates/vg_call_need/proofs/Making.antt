-- The call graph of a packed program is within the limits of call graphs.
use Rattle.std.specs.Prelude.{ℕ, ◌*◌, ◌^◌, ◌<◌, ◌≤◌, List, length, map, sum}
use Rattle.std.proofs.Common.{◌≡◌, sym, ap, ◌∙◌, subst, arith}
use Rattle.std.proofs.lemmas.List.{length-map}
use Rattle.vg_firm.specs.declared.procedure.Procedure.{Procedure as Held}
use Rattle.vg_bound.specs.declared.root.Root.{Root}
use Rattle.vg_bound.specs.Searching.{AreRoots, IsShaped}
use Rattle.vg_call_need.specs.Graph.{below, calls_of, frames_of, root}
use Rattle.vg_call_need.proofs.Edges.{below_at, edge_told}
use Rattle.vg_call_need.proofs.Beginnings.{root_at}

few_bytes : (total count : ℕ) → total ≤ 4294967295 * count → count ≤ 65536 → total ≤ 2 ^ 48
few_bytes total count h k = omega (arith, h, k)

module _ (frames : List ℕ) (all : List Held) where
  frames_long : length (frames_of frames all) ≡ length all
  frames_long = length-map all (λ m. _)

  shaped_so : length all ≤ 65536 → sum (frames_of frames all) ≤ 4294967295 * length (frames_of frames all)
      → IsShaped (frames_of frames all) (calls_of all)
  shaped_so few small = record {
    nodes = length-map all (λ m. _) ∙ sym frames_long;
    few = subst (λ z. z ≤ 65536) (sym frames_long) few;
    small = few_bytes (sum (frames_of frames all)) (length (frames_of frames all)) small (subst (λ z. z ≤ 65536) (sym frames_long) few);
    targets = λ a b e. subst (λ z. b < z) (sym frames_long) (edge_told (length all) all a b e).0;
  }

  pub shaped : (row : List ℕ) (rows : List (List ℕ)) → length all ≤ 65536 → row ≡ frames_of frames all → sum row ≤ 4294967295 * length row
      → rows ≡ calls_of all → IsShaped row rows
  shaped row rows few e small g =
      subst (λ z. IsShaped z rows) (sym e) (subst (IsShaped (frames_of frames all)) (sym g)
      (shaped_so few (subst (λ z. sum z ≤ 4294967295 * length z) e small)))

  roots_so : (extra : ℕ) (qs : List ℕ) → extra < 2 ^ 32 → AreRoots (frames_of frames all) (map (root extra) (below (length all) qs))
  roots_so extra qs small = record {
    nodes = λ i r e.
        subst (λ z. r.node < z) (sym frames_long) (below_at (length all) qs i r.node (root_at extra (below (length all) qs) i r e).1).0;
    small = λ i r e. subst (λ z. z < 2 ^ 32) (sym (root_at extra (below (length all) qs) i r e).0) small;
  }

  pub are_roots : (extra : ℕ) (qs row there : List ℕ) (roots : List Root) → extra < 2 ^ 32 → row ≡ frames_of frames all → there ≡ below (length all) qs
      → roots ≡ map (root extra) there → AreRoots row roots
  are_roots extra qs row there roots small e f g =
      subst (λ z. AreRoots z roots) (sym e) (subst (AreRoots (frames_of frames all)) (sym (g ∙ ap (map (root extra)) f)) (roots_so extra qs small))
