-- Ways and cycles of calls of a typed program are those of its text.
use Rattle.std.proofs.Common.{◌≡◌, refl, sym, ap, ◌∙◌, subst, arith, ℕ, ◌<◌, ◌≤◌, List, [], ◌∷◌, length, map, Option, Some, None, option_map, slice_get}
use Rattle.std.specs.List.{AllByRecursion}
use Rattle.std.proofs.lemmas.Option.{slice_get-map, slice_get_within}
use Rattle.vg_syntax.specs.Tree.{Node}
use Rattle.vg_source.specs.Names.{Name}
use Rattle.vg_source.specs.Peak.{costs, cost_of}
use Rattle.vg_source.specs.Program.{source_of}
use Rattle.vg_source.specs.Values as source_value
use Rattle.vg_core.specs.declared.heap.Heap.{Heap}
use Rattle.vg_core.specs.declared.program.Method.{Method}
use Rattle.vg_core.specs.Heap.{Kind}
use Rattle.vg_core.specs.Naming.{Naming, method_key, named, named_heap, naming_of}
use Rattle.vg_core.specs.Program.{Program}
use Rattle.vg_core.specs.Typing.{WellTyped}
use Rattle.vg_sound.specs.Good.{TypedHeap}
use Rattle.vg_renamed.specs.NamesTell.{NamesTell}
use Rattle.vg_packed.specs.Uses.{Calls}
use Rattle.vg_live_named.proofs.There.{live_method}
use Rattle.vg_written.specs.Written.{AreWritten, named_method}
use Rattle.vg_calls_source.specs.Graphs as graph
use Rattle.vg_calls_source.specs.Graphs.{sum_of}
use Rattle.vg_calls_source.specs.Bounds as source
use Rattle.vg_calls_source.specs.Calls as calls
use Rattle.vg_calls_source.specs.Methods.{MethodName, method_numbered, methods_of, name_in}
use Rattle.vg_calls_source.proofs.Alike.{Pairs, comes, cycles, no_cycles, sum_pairs}
use Rattle.vg_calls_packed.specs.Typed as typed
use Rattle.vg_calls_packed.proofs.Live.{callee_live}
use Rattle.vg_calls_named.specs.Names.{name_of}
use Rattle.vg_calls_named.proofs.Back.{IsOf, calls_back, entry_back, entry_live, one_of}
use Rattle.vg_calls_named.proofs.Forth.{calls_forth, cost_forth, entry_forth, types_at}

enough : (least a b : ℕ) → least ≤ a → a ≤ b → least ≤ b
enough least a b h k = omega (arith, h, k)

same_most : (a b : ℕ) → a ≡ b → a ≤ b
same_most a b e = omega (arith, e)

module _ (texts : List Name) (text : Node) (p : Program) (same : source_of text ≡ named (naming_of texts p.tables) p) (good : WellTyped p)
    (tell : NamesTell (naming_of texts p.tables) p) (written : AreWritten texts text p.tables) (h : Heap) (κ : List Kind) (heap : TypedHeap p.tables κ h) where
  abbrev n : Naming
  n = naming_of texts p.tables

  abbrev there : source_value.Heap
  there = named_heap n p.tables h

  -- a live method has this name
  abbrev Names : ℕ → MethodName → Type 0
  Names k m = IsOf texts text p same good tell written h κ heap m k

  entries : (k : ℕ) → typed.IsEntry p k → (m : MethodName) × Names k m × calls.IsEntry text m
  entries k e =
      (name_of n k, (refl, entry_live texts text p same good tell written h κ heap k e), entry_forth texts text p same good tell written h κ heap k e)

  edges : (j : ℕ) (d : MethodName) (k : ℕ) → Names j d → Calls p h j k → (m : MethodName) × Names k m × calls.Calls text there d m
  edges j d k (e, a) c = (
    name_of n k,
    (refl, callee_live p h good κ heap j k c),
    subst (λ z. calls.Calls text there z (name_of n k)) (sym e) (calls_forth texts text p same good tell written h κ heap j k c),
  )

  one_name : (k : ℕ) (m d : MethodName) → Names k m → Names k d → m ≡ d
  one_name k m d (e, a) (g, b) = e ∙ sym g

  are_names : (ks : List ℕ) (ms : List MethodName) → Pairs Names ks ms → ms ≡ map (name_of n) ks
  are_names [] [] a = refl
  are_names (k ∷ ks) (m ∷ ms) ((e, l), a) = ap (λ z. z ∷ ms) e ∙ ap (λ z. name_of n k ∷ z) (are_names ks ms a)
  are_names [] (m ∷ ms) a = absurd a
  are_names (k ∷ ks) [] a = absurd a

  cost_named : (k : ℕ) (m : MethodName) → Names k m → cost_of (costs text) k ≤ source.method_cost text m
  cost_named k m (e, a) =
      same_most (cost_of (costs text) k) (source.method_cost text m)
      (cost_forth texts text p same good tell written h κ heap k a ∙ ap (source.method_cost text) (sym e))

  pub spent : (bytes : ℕ) → graph.IsSpent (typed.IsEntry p) (Calls p h) (cost_of (costs text)) bytes → source.IsSpent text there bytes
  spent bytes (way, end, is, least) =
      let (ms, last, r, named_way, pairs) = comes (typed.IsEntry p) (Calls p h) (calls.IsEntry text) (calls.Calls text there) Names entries edges way end is in (
        ms,
        last,
        named_way,
        enough bytes (sum_of (cost_of (costs text)) way) (sum_of (source.method_cost text) ms) least
            (sum_pairs Names (cost_of (costs text)) (source.method_cost text) cost_named way ms pairs),
      )

  -- a number has the same name in the text
  pub numbered : (k : ℕ) → name_of n k ≡ method_numbered text k
  numbered k = by (slice_get p.tables.methods k) refl
    where
      by : (o : Option Method) → slice_get p.tables.methods k ≡ o → name_of n k ≡ method_numbered text k
      by (Some y) e = sym (ap name_in (types_at texts text p same good tell written h κ heap k y e))
      by None e =
          ap (λ o. record { owner = (method_key texts p.tables o).owner; name = (method_key texts p.tables o).name }) e
          ∙ sym (ap name_in (ap (λ z. slice_get z k) (sym written.methods) ∙ slice_get-map (named_method texts p.tables) p.tables.methods k
          ∙ ap (option_map (named_method texts p.tables)) e))

  all_numbered : (ks : List ℕ) → map (name_of n) ks ≡ map (method_numbered text) ks
  all_numbered [] = refl
  all_numbered (k ∷ ks) = ap (λ z. z ∷ map (name_of n) ks) (numbered k) ∙ ap (λ z. method_numbered text k ∷ z) (all_numbered ks)

  pub cycle : (methods : List ℕ) → typed.IsCallCycle p h methods → source.IsCallCycle text there (map (method_numbered text) methods)
  cycle methods is =
      let (ms, c, pairs) = cycles (typed.IsEntry p) (Calls p h) (calls.IsEntry text) (calls.Calls text there) Names entries edges one_name methods is in
      subst (source.IsCallCycle text there) (are_names methods ms pairs ∙ all_numbered methods) c

  -- its methods are methods of the text
  abbrev IsThere : ℕ → Type 0
  IsThere k = k < length (methods_of text)

  all_there : (ks : List ℕ) (ms : List MethodName) → Pairs Names ks ms → AllByRecursion IsThere ks
  all_there [] ms a = tt
  all_there (k ∷ ks) (m ∷ ms) ((e, l), a) =
      let (y, ey) = live_method p h good κ heap k l in
      (slice_get_within (methods_of text) k _ (types_at texts text p same good tell written h κ heap k y ey), all_there ks ms a)
  all_there (k ∷ ks) [] a = absurd a

  pub cycle_there : (methods : List ℕ) → typed.IsCallCycle p h methods → AllByRecursion IsThere methods
  cycle_there methods is =
      let (ms, c, pairs) = cycles (typed.IsEntry p) (Calls p h) (calls.IsEntry text) (calls.Calls text there) Names entries edges one_name methods is in
      all_there methods ms pairs

  pub none : typed.HasNoCycle p h → source.HasNoCycle text there
  none =
      no_cycles (calls.IsEntry text) (calls.Calls text there) (typed.IsEntry p) (Calls p h) (IsOf texts text p same good tell written h κ heap)
      (entry_back texts text p same good tell written h κ heap) (calls_back texts text p same good tell written h κ heap)
      (one_of texts text p same good tell written h κ heap)
