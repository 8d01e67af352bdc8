-- The calls of a packed program are those of its typed program.
use Rattle.std.proofs.Common.{◌≡◌, inl, inr, refl, sym, ap, ◌∙◌, subst, arith, ℕ, zero, suc, ◌+◌, ◌≤◌, List, [], ◌∷◌, map, Option, Some, None, slice_get}
use Rattle.std.proofs.lemmas.Option.{same_Some, none-some}
use Rattle.vg_meaning.specs.History.{Active, Calling}
use Rattle.vg_codes.specs.Codes.{Codes}
use Rattle.vg_source.specs.Peak.{cost_of, total_cost}
use Rattle.vg_core.specs.declared.heap.Heap.{Heap}
use Rattle.vg_core.specs.declared.member.Member.TheVariants.{Method}
use Rattle.vg_core.specs.declared.program.Method.{Method as TheMethod}
use Rattle.vg_core.specs.declared.program.Target.TheVariants.{Run}
use Rattle.vg_core.specs.Program.{Body, Program, method_signature}
use Rattle.vg_core.specs.Session.{handler_of}
use Rattle.vg_core.specs.Typing.{TypedBody}
use Rattle.vg_live.specs.declared.live_set.LiveSet.{LiveSet}
use Rattle.vg_live.specs.Rules.{Live}
use Rattle.vg_number.specs.declared.numbers.Numbers.{Numbers}
use Rattle.vg_number.specs.Numbering.{kinds_of}
use Rattle.vg_place.specs.declared.placing.Columns.{Columns}
use Rattle.vg_firm.specs.declared.procedure.Procedure.{Procedure as Held}
use Rattle.vg_firm.specs.Held.{procedure_of}
use Rattle.vg_firm.specs.Program.{Procedure, Program as Firm}
use Rattle.vg_firm.specs.Session.{is_among}
use Rattle.vg_packing.specs.Layout.{Layout}
use Rattle.vg_packing.specs.Laid.{SameEntry}
use Rattle.vg_packing.specs.Pass.{packed}
use Rattle.vg_pack_code.specs.Plans.{no_codes}
use Rattle.vg_packed.specs.declared.program.FirmProgram.{FirmProgram}
use Rattle.vg_packed.specs.Given.{IsGiven}
use Rattle.vg_packed.specs.Packed.{IsPackedFrom}
use Rattle.vg_packed.specs.Plans.{planned}
use Rattle.vg_packed.specs.Programs.{handler_in, program_of}
use Rattle.vg_packed.specs.Ready.{IsReady}
use Rattle.vg_packed.specs.Uses.{Calls}
use Rattle.vg_packed.proofs.Delegates.{method_there, signature}
use Rattle.vg_packed.proofs.Live.{only_methods, is_of}
use Rattle.vg_packed.proofs.StepsStanding.{all_packed}
use Rattle.vg_walks.specs.Walks.{IsCallOf, IsWalk, LiesOn}
use Rattle.vg_walks.specs.Walks as walks
use Rattle.vg_calls_source.specs.Graphs.{LeadsTo, sum_of}
use Rattle.vg_calls_source.specs.Graphs as graph
use Rattle.vg_calls_source.proofs.Alike.{Pairs, comes, cycles, no_cycles, sum_pairs}
use Rattle.vg_calls_packed.specs.Enough.{IsEnough}
use Rattle.vg_calls_packed.specs.Typed as typed
use Rattle.vg_calls_packed.specs.Typed.{IsEntry}
use Rattle.vg_calls_packed.specs.Ways as ways
use Rattle.vg_calls_packed.specs.Ways.{cost_at, cost_in, method_in, method_at}
use Rattle.vg_calls_packed.proofs.Live.{callee_live}

at_map : (ms : List Held) (q : ℕ) (x : Procedure) → slice_get (map procedure_of ms) q ≡ Some x
    → (m : Held) × (slice_get ms q ≡ Some m) × (x ≡ procedure_of m)
at_map [] q x e = absurd (none-some x e)
at_map (m ∷ ms) zero x e = (m, refl, sym (same_Some (procedure_of m) x e))
at_map (m ∷ ms) (suc q) x e = at_map ms q x e

swapped : (total sum cost below : ℕ) → total ≡ sum + (cost + below) → total ≡ (cost + sum) + below
swapped total sum cost below e = omega (arith, e)

at_most : (total sum most : ℕ) → total ≡ sum + 0 → total ≤ most → sum ≤ most
at_most total sum most e l = omega (arith, e, l)

exactly : (a b c : ℕ) → a ≡ c → a ≤ b → c ≤ b
exactly a b c e l = omega (arith, e, l)

same_most : (a b : ℕ) → a ≡ b → a ≤ b
same_most a b e = omega (arith, e)

module _ (p : Program) (h : Heap) (s : LiveSet) (n : Numbers) (c : Columns) (f : FirmProgram) (given : IsGiven p h s n c) (ready : IsReady p h)
    (from : IsPackedFrom p h s n c f) where
  abbrev l : Layout
  l = planned h n from.plan

  -- the procedure of a method
  abbrev IsOf : (q m : ℕ) → Type 0
  IsOf q m = l.numbering.procedure m ≡ Some q

  -- what stands at the place of a procedure
  record Stands (q m : ℕ) : Type 0 where
    held : Held
    at : slice_get f.procedures q ≡ Some held
    method : held.method ≡ m
    calls : held.calls ≡ l.edges m

  stands : (q m : ℕ) → IsOf q m → Stands q m
  stands q m eq =
      by (method_there p given.typed h given.heap.0 given.heap.1 s given.live m (only_methods p h s n c f given ready from no_codes m q eq))
    where
      in_body : (y : TheMethod) → slice_get p.tables.methods m ≡ Some y
          → ((b : Body) × (slice_get p.methods m ≡ Some b) × TypedBody p.tables (signature y) b) → Stands q m
      in_body y ey (b, eb, t) =
          let row = ap (λ rows. slice_get rows q) from.procedures
          ∙ all_packed p (kinds_of h) n from.plan no_codes ready.plain ready.few_arguments s.methods from.is_plan.procedures m q (signature y) b eq
          (ap method_signature ey) eb in
          let (held, at, same) = at_map f.procedures q (packed p.tables l no_codes m (signature y) b) row in
          record { held = held; at = at; method = sym (ap (λ (z : Procedure). z.method) same); calls = sym (ap (λ (z : Procedure). z.calls) same) }

      by : (y : TheMethod) × (slice_get p.tables.methods m ≡ Some y) → Stands q m
      by (y, ey) = in_body y ey (given.typed.bodies (Run m) (signature y) (ap method_signature ey))

  one_method : (q m k : ℕ) → IsOf q m → IsOf q k → m ≡ k
  one_method q m k a b =
      let x = stands q m a in
      let y = stands q k b in
      sym x.method ∙ ap (λ (z : Held). z.method) (same_Some x.held y.held (sym x.at ∙ y.at)) ∙ y.method

  -- ---- from packed calls to typed ones

  entries : (q : ℕ) → ways.IsEntry f q → (m : ℕ) × IsOf q m × IsEntry p m
  entries q (inl e) = (p.main, from.main ∙ ap Some (sym e), inl refl)
  entries q (inr (v, e)) = by (handler_of p.handlers v) refl (subst (λ z. SameEntry l (handler_of p.handlers v) z) e (from.handlers v))
    where
      by : (o : Option ℕ) → handler_of p.handlers v ≡ o → SameEntry l o (Some q) → (m : ℕ) × IsOf q m × IsEntry p m
      by (Some m) eo same = (m, same, inr (v, eo))
      by None eo same = absurd same

  pub entry_there : (q : ℕ) → ways.IsEntry f q → (m : Held) × (slice_get f.procedures q ≡ Some m)
  entry_there q entry = let (m, is, typed_entry) = entries q entry in let x = stands q m is in (x.held, x.at)

  edges : (q m r : ℕ) → IsOf q m → ways.Calls f.procedures q r → (k : ℕ) × IsOf r k × Calls p h m k
  edges q m r is call =
      let x = stands q m is in
      let (k, calls, e) = from.is_plan.only_edges m r (ap (λ z. is_among z r) (sym x.calls) ∙ subst (λ z. ways.CallsAs z r) x.at call) in
      (k, e, calls)

  cost_is : (costs : List ℕ) (q m : ℕ) → IsOf q m → cost_at f.procedures costs q ≡ cost_of costs m
  cost_is costs q m is = let x = stands q m is in ap (cost_in costs) x.at ∙ ap (cost_of costs) x.method

  method_is : (q m : ℕ) → IsOf q m → method_at f.procedures q ≡ m
  method_is q m is = let x = stands q m is in ap method_in x.at ∙ x.method

  are_methods : (qs ms : List ℕ) → Pairs IsOf qs ms → ms ≡ map (method_at f.procedures) qs
  are_methods [] [] a = refl
  are_methods (q ∷ qs) (m ∷ ms) (is, a) = ap (λ z. z ∷ ms) (sym (method_is q m is)) ∙ ap (λ z. method_at f.procedures q ∷ z) (are_methods qs ms a)
  are_methods [] (m ∷ ms) a = absurd a
  are_methods (q ∷ qs) [] a = absurd a

  pub spent_typed : (costs : List ℕ) (bytes : ℕ) → ways.IsSpent f costs bytes → graph.IsSpent (IsEntry p) (Calls p h) (cost_of costs) bytes
  spent_typed costs bytes (way, end, is, e) =
      let (ms, last, r, typed_way, pairs) = comes (ways.IsEntry f) (ways.Calls f.procedures) (IsEntry p) (Calls p h) IsOf entries edges way end is in (
        ms,
        last,
        typed_way,
        exactly (sum_of (cost_at f.procedures costs) way) (sum_of (cost_of costs) ms) bytes e
            (sum_pairs IsOf (cost_at f.procedures costs) (cost_of costs)
            (λ q m is. same_most (cost_at f.procedures costs q) (cost_of costs m) (cost_is costs q m is)) way ms pairs),
      )

  pub cycle_typed : (procedures : List ℕ) → ways.IsCycleIn f procedures → typed.IsCallCycle p h (map (method_at f.procedures) procedures)
  cycle_typed procedures is =
      let (ms, cycle, pairs) = cycles (ways.IsEntry f) (ways.Calls f.procedures) (IsEntry p) (Calls p h) IsOf entries edges one_method procedures is in
      subst (typed.IsCallCycle p h) (are_methods procedures ms pairs) cycle

  -- ---- from typed calls to walks

  abbrev firm : Firm
  firm = program_of no_codes f

  has_procedure : (m : ℕ) → Live p h (Some (Method m)) → (q : ℕ) × IsOf q m
  has_procedure m a = (is_of p h s n c f given ready from no_codes).methods m a

  abbrev live_callee : (m k : ℕ) → Calls p h m k → Live p h (Some (Method k))
  live_callee m k calls = callee_live p h given.typed given.heap.0 given.heap.1 m k calls

  map_at : (ms : List Held) (q : ℕ) (m : Held) → slice_get ms q ≡ Some m → slice_get (map procedure_of ms) q ≡ Some (procedure_of m)
  map_at [] q m e = absurd (none-some m e)
  map_at (x ∷ ms) zero m e = ap (λ z. Some (procedure_of z)) (same_Some x m e)
  map_at (x ∷ ms) (suc q) m e = map_at ms q m e

  is_call : (q m : ℕ) → IsOf q m → IsCallOf firm q (Calling m)
  is_call q m is =
      let x = stands q m is in
      record { procedure = procedure_of x.held; at = map_at f.procedures q x.held x.at; is = ap Calling (sym x.method) }

  is_named : (q m r k : ℕ) → IsOf q m → IsOf r k → Calls p h m k → walks.Names firm q r
  is_named q m r k is of calls =
      let x = stands q m is in
      record {
        procedure = procedure_of x.held;
        at = map_at f.procedures q x.held x.at;
        names = ap (λ z. is_among z r) x.calls ∙ from.is_plan.edges m k r calls of;
      }

  walk_entry : (m : ℕ) → IsEntry p m → (q : ℕ) × IsOf q m × walks.IsEntry firm q
  walk_entry m (inl e) = (f.main, ap l.numbering.procedure e ∙ from.main, inl refl)
  walk_entry m (inr (v, e)) = by (handler_in f.handlers v) refl (subst (λ z. SameEntry l z (handler_in f.handlers v)) e (from.handlers v))
    where
      by : (o : Option ℕ) → handler_in f.handlers v ≡ o → SameEntry l (Some m) o → (q : ℕ) × IsOf q m × walks.IsEntry firm q
      by (Some q) eo same = (q, same, inr (v, eo))
      by None eo same = absurd same

  module _ (costs : List ℕ) where
    -- active calls that go on along a way
    abbrev WalksOn : (m : ℕ) (ms : List ℕ) → (below : List Active) → Type 0
    WalksOn m ms below = (calls : List Active) × IsWalk firm calls × (total_cost costs calls ≡ sum_of (cost_of costs) (m ∷ ms) + total_cost costs below)

    goes_on : (m q : ℕ) (below : List Active) → IsOf q m → LiesOn firm q below → (ms : List ℕ) (end : ℕ) → LeadsTo (Calls p h) m ms end → WalksOn m ms below
    goes_on m q below is lies [] end e = (
      Calling m ∷ below,
      (q, is_call q m is, lies),
      alone (cost_of costs m) (total_cost costs below),
    )
      where
        alone : (a b : ℕ) → a + b ≡ (a + 0) + b
        alone a b = omega arith
    goes_on m q below is lies (k ∷ ks) end (call, rest) =
        let (r, of) = has_procedure k (live_callee m k call) in
        let (calls, walk, total) = goes_on k r (Calling m ∷ below) of (q, is_call q m is, is_named q m r k is of call, lies) ks end rest in
        (calls, walk, swapped (total_cost costs calls) (sum_of (cost_of costs) (k ∷ ks)) (cost_of costs m) (total_cost costs below) total)

    pub ways_cost : (bytes : ℕ) → IsEnough firm costs bytes → (way : List ℕ) (end : ℕ) → graph.IsWayTo (IsEntry p) (Calls p h) end way
        → sum_of (cost_of costs) way ≤ bytes
    ways_cost bytes enough [] end is = absurd is
    ways_cost bytes enough (m ∷ ms) end (entry, leads) =
        let (q, is, begins) = walk_entry m entry in
        let (calls, walk, total) = goes_on m q [] is begins ms end leads in
        at_most (total_cost costs calls) (sum_of (cost_of costs) (m ∷ ms)) bytes total (enough calls walk)

  pub is_path : (costs : List ℕ) (bytes : ℕ) → ((k : Codes) → IsEnough (program_of k f) costs bytes) → ways.IsSpent f costs bytes
      → typed.IsPath p h costs bytes
  is_path costs bytes enough spent = record { enough = ways_cost costs bytes (enough no_codes); spent = spent_typed costs bytes spent }

  -- ---- from typed cycles to packed ones

  packed_entries : (m : ℕ) → IsEntry p m → (q : ℕ) × IsOf q m × ways.IsEntry f q
  packed_entries m entry = walk_entry m entry

  packed_edges : (m q k : ℕ) → IsOf q m → Calls p h m k → (r : ℕ) × IsOf r k × ways.Calls f.procedures q r
  packed_edges m q k is calls =
      let (r, of) = has_procedure k (live_callee m k calls) in
      let x = stands q m is in (
        r,
        of,
        subst (λ z. ways.CallsAs z r) (sym x.at) (ap (λ z. is_among z r) x.calls ∙ from.is_plan.edges m k r calls of),
      )

  one_procedure : (m q r : ℕ) → IsOf q m → IsOf r m → q ≡ r
  one_procedure m q r a b = same_Some q r (sym a ∙ b)

  pub has_none : ways.HasNoCycle f → typed.HasNoCycle p h
  has_none none =
      no_cycles (IsEntry p) (Calls p h) (ways.IsEntry f) (ways.Calls f.procedures) (λ m q. IsOf q m) packed_entries packed_edges one_procedure none
