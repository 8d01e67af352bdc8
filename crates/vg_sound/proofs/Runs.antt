-- The initialisation of a well typed program and its runs are never Wrong.
use Rattle.std.proofs.Common.{◌≡◌, ℕ, zero, suc, ◌+◌, ◌==◌, Bool, true, false, List, [], ◌∷◌, length, map, Option, Some, None, option_map, slice_get}
use Rattle.std.proofs.Common.{if◌then◌else◌}
use Rattle.std.proofs.Common.{refl, sym, ap, ◌∙◌, subst, arith}
use Rattle.std.proofs.lemmas.List.{length-map}
use Rattle.std.proofs.lemmas.Option.{slice_get-map}
use Rattle.vg_meaning.specs.History.{Recorder}
use Rattle.vg_meaning.specs.Answer.{OutOfRoom, Answer, go_on, passes}
use Rattle.vg_meaning.specs.Safe.{Safe, gives, SafePiece, NoWay, IsRight}
use Rattle.vg_meaning_laws.proofs.Safe.{safe_then, safe_weaker, safe_unless, safe_idles}
use Rattle.vg_source.specs.Session.{starting_world, running_world}
use Rattle.vg_core.specs.declared.types.CoreType.TheVariants.{CharType}
use Rattle.vg_core.specs.declared.value.CoreValue.TheVariants.{Char, Null}
use Rattle.vg_core.specs.declared.heap.Cell.{Cell}
use Rattle.vg_core.specs.declared.heap.Heap.{Heap}
use Rattle.vg_core.specs.declared.program.Owner.TheVariants.{InComponent}
use Rattle.vg_core.specs.declared.program.Field.{Field}
use Rattle.vg_core.specs.declared.program.Handler.{Handler}
use Rattle.vg_core.specs.declared.program.Tables.{Tables}
use Rattle.vg_core.specs.Tables.{global_slot_in}
use Rattle.vg_core.specs.declared.program.Target.{Target}
use Rattle.vg_core.specs.declared.program.Target.TheVariants.{Run, Start}
use Rattle.vg_core.specs.Program.{Program, Signature, signature_of, method_signature, start_signature}
use Rattle.vg_core.specs.declared.heap.Cell.TheVariants.{Object, Array}
use Rattle.vg_core.specs.Heap.{Kind, ObjectOf, ArrayOf, kind_of, stored_values}
use Rattle.vg_core.specs.State.{State, onto}
use Rattle.vg_core.specs.Meaning.{taking}
use Rattle.vg_core.specs.Session.{call_alone, literal_cell, first_heap, start_all, with_heap, starting, handler_of, handled, running}
use Rattle.vg_core.specs.Types.{AllHave, AreKinds, SelfOf}
use Rattle.vg_core.specs.Typing.{Subs, IsEntry, AreEntries, WellTyped}
use Rattle.vg_sound.specs.Good.{TypedHeap, GoodAt, HasTypedHeap, HoldsTypedHeap}
use Rattle.vg_sound.proofs.Values.{none_some}
use Rattle.vg_sound.proofs.Cells.{fresh_fields}
use Rattle.vg_sound.proofs.Pieces.{safe_taking}
use Rattle.vg_sound.proofs.Calls.{safe_called}

module _ (p : Program) (good : WellTyped p) where
  -- nothing is in hand but a heap
  abbrev Between : {K : Type 0} → List Kind → State → K → Type 0
  Between κ s h = GoodAt p.tables κ [] (InComponent 0) [] s h

  -- the kinds of the cells of literals
  abbrev pub literal_kinds : List (List ℕ) → List Kind
  literal_kinds ls = map (λ bytes. ArrayOf p.tables.char_type (length bytes)) ls

  all_chars : (κ : List Kind) (bytes : List ℕ) → AllHave p.tables κ CharType (map Char bytes)
  all_chars κ [] = tt
  all_chars κ (b ∷ bytes) = (tt, all_chars κ bytes)

  literal_cells : (κ : List Kind) (ls : List (List ℕ)) → AreKinds p.tables κ (map (literal_cell p.tables.char_type) ls) (literal_kinds ls)
  literal_cells κ [] = tt
  literal_cells κ (bytes ∷ ls) = ((refl, length-map bytes Char, CharType, good.tables.char_type, all_chars κ bytes), literal_cells κ ls)

  there : {i : ℕ} (z : Option Field) → global_slot_in z ≡ Some i → (y : Field) × (z ≡ Some y)
  there None e = none_some _ e
  there (Some y) e = (y, refl)

  -- the heap before initialisation
  pub first_typed : TypedHeap p.tables (literal_kinds p.tables.literals) (first_heap p)
  first_typed = record {
    cells = literal_cells (literal_kinds p.tables.literals) p.tables.literals;
    globals = fresh_fields p.tables good.tables (literal_kinds p.tables.literals) p.tables.globals
        (λ i f e. there (slice_get p.tables.fields f) ((good.tables.global_slots i f).0 e));
    literals = λ k bytes e. slice_get-map (λ b. ArrayOf p.tables.char_type (length b)) p.tables.literals k ∙ by bytes (slice_get p.tables.literals k) e;
  }
    where
      by : (bytes : List ℕ) (o : Option (List ℕ)) → o ≡ Some bytes → option_map (λ b. ArrayOf p.tables.char_type (length b)) o
          ≡ Some (ArrayOf p.tables.char_type (length bytes))
      by bytes o e = ap (option_map (λ b. ArrayOf p.tables.char_type (length b))) e

  module _ {K : Type 0} (r : Recorder K) where
    -- a call of a component's from outside
    safe_alone : (κ : List Kind) (k : ℕ) (t : Target) (g : Signature) → signature_of p.tables t ≡ Some g → g.owner ≡ InComponent k → g.params ≡ []
        → SafePiece {H = K} (Between κ) (Between κ) NoWay IsRight (call_alone r p t)
    safe_alone κ k t g e eo ep s w q =
        safe_then (taking (λ v. go_on))
        (safe_called p good r w.clock κ [] (InComponent 0) [] [] t g e (subst (λ ps. Subs p.tables [] (onto ps [])) (sym ep) tt) Null s w q
        (subst (SelfOf p.tables q.kinds Null) (sym eo) tt))
        (safe_taking p.tables κ [] (InComponent 0) g.result [] [] (λ v. go_on) (λ v s1 w1 g1 h. gives g1))

    safe_entry : (κ : List Kind) (m : ℕ) → IsEntry p m → SafePiece {H = K} (Between κ) (Between κ) NoWay IsRight (call_alone r p (Run m))
    safe_entry κ m e = safe_alone κ e.component (Run m) _ (ap method_signature e.is) e.owner e.params

    -- the components from k on
    safe_start_all : (κ : List Kind) (names : List ℕ) (k : ℕ) → ((i n : ℕ) → slice_get names i ≡ Some n → slice_get p.tables.components (k + i) ≡ Some n)
        → SafePiece {H = K} (Between κ) (Between κ) NoWay IsRight (start_all r p k names)
    safe_start_all κ [] k h s w q = gives q
    safe_start_all κ (n ∷ names) k h s w q =
        safe_then (start_all r p (suc k) names)
        (safe_alone κ k (Start k) _ (ap (start_signature k) (let z : k ≡ k + 0 = omega arith in ap (slice_get p.tables.components) z ∙ h zero n refl))
        refl refl s w q)
        (safe_start_all κ names (suc k) (λ i m e. let z : suc k + i ≡ k + suc i = omega arith in ap (slice_get p.tables.components) z ∙ h (suc i) m e))

    -- initialisation
    pub safe_starting : (history : K) (clock : ℕ) → Safe (Between (literal_kinds p.tables.literals)) NoWay IsRight (starting r history p clock)
    safe_starting history clock =
        safe_unless (Between (literal_kinds p.tables.literals)) (Between (literal_kinds p.tables.literals)) NoWay IsRight
        (passes (Some 60000) (stored_values (first_heap p))) OutOfRoom (start_all r p 0 p.tables.components) (λ s h q. tt)
        (safe_start_all (literal_kinds p.tables.literals) p.tables.components 0 (λ i n e. let z : 0 + i ≡ i = omega arith in ap (slice_get p.tables.components)
        z ∙ e))
        (with_heap (first_heap p)) (starting_world history clock)
        (record { kinds = literal_kinds p.tables.literals; grown = λ k a q. q; heap = first_typed; values = tt; locals = tt; self = tt })

    safe_handled : (κ : List Kind) (hs : List Handler) → AreEntries p hs → (v : ℕ) → SafePiece {H = K} (Between κ) (Between κ) NoWay IsRight
        (handled r p (handler_of hs v))
    safe_handled κ [] h v = λ s w g. gives g
    safe_handled κ (x ∷ hs) (a, h) v = by (x.vector == v) (safe_handled κ hs h v)
      where
        by : (b : Bool) → SafePiece {H = K} (Between κ) (Between κ) NoWay IsRight (handled r p (handler_of hs v))
            → SafePiece {H = K} (Between κ) (Between κ) NoWay IsRight (handled r p (if b then Some x.method else handler_of hs v))
        by true go = safe_entry κ x.method a
        by false go = go

    -- a run from a typed heap
    pub safe_running : (κ : List Kind) (h : Heap) → TypedHeap p.tables κ h → (history : K) (deepest : Option ℕ) (reads interrupts : List ℕ) (clock : ℕ)
        → Safe (Between κ) NoWay IsRight (running r history p h deepest reads interrupts clock)
    safe_running κ h typed history deepest reads interrupts clock =
        safe_then _
        (safe_entry κ p.main good.main (with_heap h) (running_world history deepest reads interrupts clock)
        (record { kinds = κ; grown = λ k a q. q; heap = typed; values = tt; locals = tt; self = tt }))
        (safe_idles (Between κ) NoWay IsRight (length interrupts) _ (λ s h q. tt) (safe_handled κ p.handlers good.handlers))

    -- ---- whatever the kinds

    forgets : (κ : List Kind) {a : Answer State K} → Safe (Between κ) NoWay IsRight a → Safe (HoldsTypedHeap p.tables) NoWay IsRight a
    forgets κ h = safe_weaker h (λ s h1 g. (g.kinds, g.heap)) (λ why s h1 q. q) (λ why h1 q. q)

    pub right_starting : (history : K) (clock : ℕ) → Safe (HoldsTypedHeap p.tables) NoWay IsRight (starting r history p clock)
    right_starting history clock = forgets (literal_kinds p.tables.literals) (safe_starting history clock)

    pub right_running : (h : Heap) → HasTypedHeap p.tables h → (history : K) (deepest : Option ℕ) (reads interrupts : List ℕ) (clock : ℕ)
        → Safe (HoldsTypedHeap p.tables) NoWay IsRight (running r history p h deepest reads interrupts clock)
    right_running h (κ, typed) history deepest reads interrupts clock = forgets κ (safe_running κ h typed history deepest reads interrupts clock)

-- the kinds of a typed heap are those of its cells
kinds_are : (p : Tables) (κ0 κ : List Kind) (cells : List Cell) → AreKinds p κ0 cells κ → κ ≡ map kind_of cells
kinds_are p κ0 [] [] h = refl
kinds_are p κ0 (ObjectOf d ∷ κ) (Object c vs ∷ cells) ((e, x, ex, b), h) = ap (λ z. ObjectOf z ∷ κ) (sym e) ∙ ap (λ z. ObjectOf c ∷ z)
    (kinds_are p κ0 κ cells h)
kinds_are p κ0 (ArrayOf u n ∷ κ) (Array t vs ∷ cells) ((e, l, x, ex, b), h) =
    ap (λ z. ArrayOf z n ∷ κ) (sym e) ∙ (ap (λ z. ArrayOf t z ∷ κ) (sym l) ∙ ap (λ z. ArrayOf t (length vs) ∷ z) (kinds_are p κ0 κ cells h))
kinds_are p κ0 (ObjectOf d ∷ κ) (Array t vs ∷ cells) (a, h) = absurd a
kinds_are p κ0 (ArrayOf u n ∷ κ) (Object c vs ∷ cells) (a, h) = absurd a
kinds_are p κ0 [] (c ∷ cells) h = absurd h
kinds_are p κ0 (k ∷ κ) [] h = absurd h

pub kinds_of_heap : (p : Tables) (κ : List Kind) (h : Heap) → TypedHeap p κ h → κ ≡ map kind_of h.cells
kinds_of_heap p κ h typed = kinds_are p κ κ h.cells typed.cells
