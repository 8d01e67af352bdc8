-- The largest sum of the call graph of a packed program, or its cycle, is what its calls need.
use Rattle.std.specs.Prelude.{ℕ, zero, suc, ◌+◌, ◌<◌, ◌≤◌, true, List, [], ◌∷◌, ◌++◌, length, map, Some, slice_get}
use Rattle.std.proofs.Common.{◌≡◌, ◌⊎◌, inl, inr, refl, sym, ap, ◌∙◌, subst, arith}
use Rattle.std.proofs.lemmas.Option.{same_Some, none-some, slice_get_within}
use Rattle.vg_meaning.specs.History.{Active}
use Rattle.vg_codes.specs.Codes.{Codes}
use Rattle.vg_source.specs.Peak.{call_cost, cost_of, total_cost}
use Rattle.vg_firm.specs.declared.procedure.Procedure.{Procedure as Held}
use Rattle.vg_firm.specs.Held.{procedure_of}
use Rattle.vg_firm.specs.Program.{Procedure, Program}
use Rattle.vg_firm.specs.Session.{is_among}
use Rattle.vg_packed.specs.Programs.{program_of}
use Rattle.vg_packed.specs.declared.program.FirmProgram.{FirmProgram}
use Rattle.vg_walks.specs.Walks.{IsCallOf, LiesOn}
use Rattle.vg_bound.specs.declared.root.Root.{Root}
use Rattle.vg_bound.specs.Graph.{Graph, HasEdge, IsPath, cost, last_of, Reaches, here, on, IsRoot, HasCycle, IsLargest, IsKeptCycle, IsSameGraph}
use Rattle.vg_calls_source.specs.Graphs.{LeadsTo}
use Rattle.vg_calls_packed.specs.Enough.{IsEnough}
use Rattle.vg_calls_packed.specs.Ways.{Calls, HasNoCycle, IsCycleIn, IsEntry, IsSpent, IsWayTo, cost_at, cost_in, way_cost}
use Rattle.vg_call_need.specs.Graph.{below, entries_of, graph_of, root}
use Rattle.vg_call_need.specs.Need.{IsNeed}
use Rattle.vg_call_need.specs.declared.need.Need.TheVariants as need
use Rattle.vg_call_need.proofs.Edges.{below_of, calls_within, edge_of, edge_told, path_cost, some_calls}
use Rattle.vg_call_need.proofs.Edges as edges
use Rattle.vg_call_need.proofs.Beginnings.{entry_among, entry_told, root_at, root_of}

at_map : (ms : List Held) (q : ℕ) (x : Procedure) → slice_get (map procedure_of ms) q ≡ Some x
    → (m : Held) × (slice_get ms q ≡ Some m) × (x ≡ procedure_of m)
at_map [] q x e = absurd (none-some x e)
at_map (m ∷ ms) zero x e = (m, refl, sym (same_Some (procedure_of m) x e))
at_map (m ∷ ms) (suc q) x e = at_map ms q x e

-- ---- ways

one_further : (ms : List Held) (a : ℕ) (bs : List ℕ) (b c : ℕ) → LeadsTo (Calls ms) a bs b → Calls ms b c → LeadsTo (Calls ms) a (bs ++ c ∷ []) c
one_further ms a [] b c e call = (subst (λ z. Calls ms z c) (sym e) call, refl)
one_further ms a (x ∷ bs) b c (first, rest) call = (first, one_further ms x bs b c rest call)

begins_within : (ms : List Held) (a : ℕ) (bs : List ℕ) (end : ℕ) → LeadsTo (Calls ms) a bs end → end < length ms → a < length ms
begins_within ms a [] end e lt = subst (λ z. z < length ms) (sym e) lt
begins_within ms a (b ∷ bs) end (first, rest) lt = calls_within ms a b first

-- ---- sums

behind : (total call extra sum most at : ℕ) → total + extra + (at + sum) ≤ most → call ≡ at → (call + total) + extra + sum ≤ most
behind total call extra sum most at l e = omega (arith, l, e)

alone : (extra sum most : ℕ) → extra + sum ≤ most → 0 + extra + sum ≤ most
alone extra sum most l = omega (arith, l)

whole : (total call extra most at bytes : ℕ) → total + extra + (at + 0) ≤ most → call ≡ at → most ≡ extra + bytes → call + total ≤ bytes
whole total call extra most at bytes l e m = omega (arith, l, e, m)

left : (extra sum n other bytes : ℕ) → other + sum ≡ n → other ≡ extra → sum ≡ bytes → n ≡ extra + bytes
left extra sum n other bytes e f g = omega (arith, e, f, g)

module _ (extra : ℕ) (f : FirmProgram) (frames : List ℕ) (main : f.main < length f.procedures) (g : Graph)
    (same : IsSameGraph (graph_of extra f frames) g) where
  abbrev all : List Held
  all = f.procedures

  edge_calls : (a b : ℕ) → HasEdge g.calls a b → (b < length all) × Calls all a b
  edge_calls a b h = edges.edge_told (length all) all a b (subst (λ z. HasEdge z a b) same.calls h)

  call_edge : (a b : ℕ) → b < length all → Calls all a b → HasEdge g.calls a b
  call_edge a b lt c = subst (λ z. HasEdge z a b) (sym same.calls) (edges.edge_of (length all) all a b lt c)

  costs : (path : List ℕ) → cost g.frames path ≡ way_cost all frames path
  costs path = ap (λ z. cost z path) same.frames ∙ path_cost frames all path

  root_told : (r : Root) → IsRoot g r → (r.extra ≡ extra) × IsEntry f r.node
  root_told r (i, e) =
      let (is, at) = root_at extra (below (length all) (entries_of f)) i r (subst (λ z. slice_get z i ≡ Some r) same.roots e) in
      (is, entry_told f r.node (edges.below_at (length all) (entries_of f) i r.node at).1)

  entry_root : (q : ℕ) → q < length all → IsEntry f q → IsRoot g (root extra q)
  entry_root q lt entry =
      let (i, e) = below_of (length all) (entries_of f) q lt (entry_among f q entry) in
      (i, subst (λ z. slice_get z i ≡ Some (root extra q)) (sym same.roots) (root_of extra (below (length all) (entries_of f)) i q e))

  -- ---- paths are ways

  path_leads : (q : ℕ) (bs : List ℕ) → IsPath g.calls q bs → LeadsTo (Calls all) q bs (last_of q bs)
  path_leads q [] p = refl
  path_leads q (b ∷ bs) (e, p) = ((edge_calls q b e).1, path_leads b bs p)

  reach_leads : (a b : ℕ) → Reaches g.calls a b → (bs : List ℕ) × LeadsTo (Calls all) a bs b
  reach_leads a b here = ([], refl)
  reach_leads a c (on {b} r e) = let (bs, leads) = reach_leads a b r in (bs ++ c ∷ [], one_further all a bs b c leads (edge_calls b c e).1)

  leads_reach : (a q : ℕ) (bs : List ℕ) (end : ℕ) → Reaches g.calls a q → LeadsTo (Calls all) q bs end → end < length all → Reaches g.calls a end
  leads_reach a q [] end r e lt = subst (Reaches g.calls a) e r
  leads_reach a q (b ∷ bs) end r (call, rest) lt = leads_reach a b bs end (on r (call_edge q b (begins_within all b bs end rest lt) call)) rest lt

  -- ---- enough

  module _ (n : ℕ) (largest : IsLargest g n) where
    abbrev spent : Type 0
    spent = (bytes : ℕ) × (n ≡ extra + bytes) × IsSpent f frames bytes

    is_spent : spent
    is_spent = by largest.reached
      where
        by : ((g.roots ≡ []) × (n ≡ 0))
            ⊎ ((r : Root) × (bs : List ℕ) × IsRoot g r × IsPath g.calls r.node bs × (r.extra + cost g.frames (r.node ∷ bs) ≡ n)) → spent
        by (inl (none, z)) =
            let (i, e) = entry_root f.main main (inl refl) in absurd (none-some (root extra f.main) (subst (λ z. slice_get z i ≡ Some (root extra f.main)) none e))
        by (inr (r, bs, is, path, sum)) =
            let (at, entry) = root_told r is in (
              way_cost all frames (r.node ∷ bs),
              left extra (cost g.frames (r.node ∷ bs)) n r.extra (way_cost all frames (r.node ∷ bs)) sum at (costs (r.node ∷ bs)),
              (r.node ∷ bs, last_of r.node bs, (entry, path_leads r.node bs path), refl),
            )

    module _ (k : Codes) where
      abbrev p : Program
      p = program_of k f

      call_is : (q : ℕ) (a : Active) → IsCallOf p q a → (q < length all) × (call_cost frames a ≡ cost_at all frames q)
      call_is q a call =
          let (m, at, is) = at_map all q call.procedure call.at in
          (slice_get_within all q m at, ap (call_cost frames) call.is ∙ (ap (λ (z : Procedure). cost_of frames z.method) is ∙ ap (cost_in frames) (sym at)))

      names : (c q : ℕ) (x : Procedure) → slice_get p.procedures c ≡ Some x → is_among x.calls q ≡ true → Calls all c q
      names c q x at named =
          let (m, there, is) = at_map all c x at in
          some_calls all c q m there (subst (λ (z : Procedure). is_among z.calls q ≡ true) is named)

      abbrev frame : ℕ → ℕ
      frame q = cost_at all frames q

      lies_within : (q : ℕ) (bs : List ℕ) (calls : List Active) → q < length all → IsPath g.calls q bs → LiesOn p q calls
          → total_cost frames calls + extra + way_cost all frames (q ∷ bs) ≤ n
      lies_within q bs [] lt path entry =
          alone extra (way_cost all frames (q ∷ bs)) n
          (subst (λ z. extra + z ≤ n) (costs (q ∷ bs)) (largest.most (root extra q) bs (entry_root q lt entry) path))
      lies_within q bs (a ∷ more) lt path (c, call, named, lies) =
          let (there, is) = call_is c a call in
          let edge = call_edge c q lt (names c q named.procedure named.at named.names) in
          behind (total_cost frames more) (call_cost frames a) extra (way_cost all frames (q ∷ bs)) n (frame c)
          (lies_within c (q ∷ bs) more there (edge, path) lies) is

      is_enough : (bytes : ℕ) → n ≡ extra + bytes → IsEnough p frames bytes
      is_enough bytes e [] walk = omega arith
      is_enough bytes e (a ∷ more) (q, call, lies) =
          let (there, is) = call_is q a call in
          whole (total_cost frames more) (call_cost frames a) extra n (frame q) bytes (lies_within q [] more there tt lies) is e

  -- ---- cycles

  turns : (a : ℕ) (more : List ℕ) → LeadsTo (Calls all) a (more ++ a ∷ []) a
      → (x : ℕ) × (xs : List ℕ) × Calls all a x × LeadsTo (Calls all) x xs a
  turns a [] (call, e) = (a, [], call, e)
  turns a (x ∷ xs) (call, rest) = (x, xs ++ a ∷ [], call, rest)

  no_cycle : (HasCycle g → ⊥) → HasNoCycle f
  no_cycle none [] is = is
  no_cycle none (a ∷ more) (round, ([], is)) = is
  no_cycle none (a ∷ more) (round, (w ∷ ws, (entry, leads))) =
      let (x, xs, call, back) = turns a more round in
      let lt = calls_within all a x call in
      none (
        root extra w,
        a,
        x,
        entry_root w (begins_within all w ws a leads lt) entry,
        leads_reach w w ws a here leads lt,
        call_edge a x (begins_within all x xs a back lt) call,
        leads_reach x x xs a here back lt,
      )

  cycle_in : (m : ℕ) (bs : List ℕ) → IsKeptCycle g m bs → IsCycleIn f (m ∷ bs)
  cycle_in m bs k = (one_further all m bs (last_of m bs) m (path_leads m bs k.path) (edge_calls (last_of m bs) m k.closed).1, by k.reached)
    where
      by : ((r : Root) × IsRoot g r × Reaches g.calls r.node m) → (way : List ℕ) × IsWayTo f m way
      by (r, is, reaches) = let (ws, leads) = reach_leads r.node m reaches in (r.node ∷ ws, ((root_told r is).1, leads))

  -- ---- needs

  pub bytes_need : (n : ℕ) → IsLargest g n → (HasCycle g → ⊥) → IsNeed extra f frames (need.Bytes n)
  bytes_need n largest none =
      let (bytes, e, spent) = is_spent n largest in (no_cycle none, (bytes, e, λ k. is_enough n largest k bytes e, spent))

  pub cycle_need : (m : ℕ) (bs nodes : List ℕ) → IsKeptCycle g m bs → nodes ≡ g.kept → IsNeed extra f frames (need.Cycle nodes)
  cycle_need m bs nodes k e = subst (IsCycleIn f) (sym (e ∙ k.kept)) (cycle_in m bs k)
