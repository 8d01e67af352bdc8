-- Bodies, calls, the initialisation and runs do the same under numbers and under names.
use Rattle.std.proofs.Common.{◌≡◌, ℕ, zero, suc, ◌==◌, Bool, true, false, List, [], ◌∷◌, ◌++◌, length, map, take, reverse, Option, Some, None}
use Rattle.std.proofs.Common.{option_map, if◌then◌else◌}
use Rattle.std.proofs.Common.{refl, sym, ap, ◌∙◌, subst}
use Rattle.vg_meaning.specs.History.{Recorder, History, no_history, full}
use Rattle.vg_meaning.specs.World.{World}
use Rattle.vg_meaning.specs.Answer.{OutOfRoom, Over, Answer, Gives, Ends, Piece, go_on, passes, unless}
use Rattle.vg_meaning.specs.Calls.{opened}
use Rattle.vg_meaning.specs.Loops.{Tested}
use Rattle.vg_meaning.specs.Code.{Code, performed, replaced}
use Rattle.vg_meaning.specs.Safe.{Safe, leaves, overs, NoWay, IsRight, Alike}
use Rattle.vg_meaning.specs.Same as same
use Rattle.vg_meaning.specs.Same.{SamePiece, Always, SameTest}
use Rattle.vg_meaning_laws.proofs.Same.{same_then, same_unless, same_opened, same_returned, same_replaced, same_idles}
use Rattle.vg_meaning_laws.proofs.Safe.{same_shown}
use Rattle.vg_source.specs.Types as source_type
use Rattle.vg_source.specs.Values as source_value
use Rattle.vg_source.specs.Steps as source_step
use Rattle.vg_source.specs.Steps.{Source}
use Rattle.vg_source.specs.State as source_state
use Rattle.vg_source.specs.State.{find_called, of_count}
use Rattle.vg_source.specs.Meaning as source
use Rattle.vg_source.specs.Session as session
use Rattle.vg_source.specs.Session.{starting_world, running_world}
use Rattle.vg_core.specs.declared.value.CoreValue.{CoreValue}
use Rattle.vg_core.specs.declared.value.CoreValue.TheVariants.{Int, Bool as Truth, Char, Raw, Null, Obj, Arr, Bound}
use Rattle.vg_core.specs.declared.heap.Heap.{Heap}
use Rattle.vg_core.specs.declared.step.Step.{Step}
use Rattle.vg_core.specs.declared.program.Handler.{Handler}
use Rattle.vg_core.specs.declared.program.Target.{Target}
use Rattle.vg_core.specs.declared.program.Target.TheVariants.{Run, Construct, Start}
use Rattle.vg_core.specs.declared.program.Tables.{Tables}
use Rattle.vg_core.specs.Program.{Body, Program, Signature, signature_of, body_of}
use Rattle.vg_core.specs.Heap.{Kind, default, stored_values}
use Rattle.vg_core.specs.State.{State, are_of, onto, entered, left}
use Rattle.vg_core.specs.Meaning.{put, with_found, of_type, Caller, defaults, step, truth, truth_in, activity, back_in, run_body}
use Rattle.vg_core.specs.Meaning.{with_arguments, called}
use Rattle.vg_core.specs.Session.{call_alone, literal_cell, first_heap, start_all, with_heap, starting, handler_of, handled, running, start_of, started}
use Rattle.vg_core.specs.Session.{session_of}
use Rattle.vg_core.specs.Session.{session as core_session}
use Rattle.vg_core.specs.Typing.{WellFormed, WellTyped}
use Rattle.vg_core.specs.Naming.{Naming, type_named, named_value, as_named, keyed, named_cell, named_heap, named_state}
use Rattle.vg_core.specs.Naming.{named_target, number_in, named_routine}
use Rattle.vg_core.specs.Naming.{named_components, named_handler}
use Rattle.vg_sound.specs.Good.{TypedHeap, HasTypedHeap}
use Rattle.vg_sound.proofs.Runs.{safe_starting, safe_running}
use Rattle.vg_renamed.specs.IsNamed.{IsNamed}
use Rattle.vg_renamed.specs.Stands.{Stands, AreSame, named_start}
use Rattle.vg_renamed.proofs.Lists.{take_map, drop_map, onto_map}
use Rattle.vg_renamed.proofs.Fields.{same_stored}
use Rattle.vg_renamed.proofs.Pieces.{DoSame, Here, along, same_checked, same_of_type, same_put, same_had, same_taking}
use Rattle.vg_renamed.proofs.Steps.{CallsSame, same_step}

module _ (n : Naming) (p : Program) (q : Source) (named : IsNamed n p q) (formed : WellFormed p.tables) where
  label : (t : Target) → activity t ≡ session.activity (named_target n p.tables t) (number_in n p.tables t)
  label (Run m) = refl
  label (Construct c) = refl
  label (Start k) = refl

  same_truth : (s : State) → SameTest (Stands n p.tables) (truth s) (source.truth (named_state n p.tables s))
  same_truth s = by s.values
    where
      test : (b : Bool) (vs : List CoreValue) → SameTest (Stands n p.tables) (Tested b (record s { values = vs }))
          (Tested b (record (named_state n p.tables s) { values = map (named_value n p.tables) vs }))
      test true vs = refl
      test false vs = refl

      by : (vs : List CoreValue) → SameTest (Stands n p.tables) (truth_in vs s) (source.truth_in (map (named_value n p.tables) vs) (named_state n p.tables s))
      by [] = tt
      by (Truth b ∷ vs) = test b vs
      by (Int i ∷ vs) = tt
      by (Char i ∷ vs) = tt
      by (Raw j i ∷ vs) = tt
      by (Null ∷ vs) = tt
      by (Obj k ∷ vs) = tt
      by (Arr k ∷ vs) = tt
      by (Bound r m ∷ vs) = tt

  handler_same : (hs : List Handler) (v : ℕ) → source_state.handler_of (map (named_handler n p.tables) hs) v
      ≡ option_map (λ m. named_target n p.tables (Run m)) (handler_of hs v)
  handler_same [] v = refl
  handler_same (h ∷ hs) v = by (h.vector == v) (handler_same hs v)
    where
      by : (b : Bool) → source_state.handler_of (map (named_handler n p.tables) hs) v ≡ option_map (λ m. named_target n p.tables (Run m)) (handler_of hs v)
          → (if b then Some (named_target n p.tables (Run h.method)) else source_state.handler_of (map (named_handler n p.tables) hs) v)
          ≡ option_map (λ m. named_target n p.tables (Run m)) (if b then Some h.method else handler_of hs v)
      by true go = refl
      by false go = go

  -- ---- the heap before initialisation

  same_chars : (bytes : List ℕ) → map (named_value n p.tables) (map Char bytes) ≡ map source_value.Char bytes
  same_chars [] = refl
  same_chars (b ∷ bytes) = ap (λ z. source_value.Char b ∷ z) (same_chars bytes)

  same_literals : (ls : List (List ℕ)) → map (named_cell n p.tables) (map (literal_cell p.tables.char_type) ls) ≡ map session.literal_cell ls
  same_literals [] = refl
  same_literals (bytes ∷ ls) =
      ap (λ z. z ∷ map (named_cell n p.tables) (map (literal_cell p.tables.char_type) ls))
      (ap (λ z. source_value.Array (type_named n p.tables z) (map (named_value n p.tables) (map Char bytes))) formed.char_type
      ∙ ap (source_value.Array source_type.CharType) (same_chars bytes))
      ∙ ap (λ z. session.literal_cell bytes ∷ z) (same_literals ls)

  pub same_first : named_heap n p.tables (first_heap p) ≡ session.first_heap q
  same_first =
      ap (λ z. record { cells = z; globals = keyed n p.tables p.tables.globals (defaults p.tables p.tables.globals) }) (same_literals p.tables.literals)
      ∙ (ap (λ z. record { cells = map session.literal_cell z; globals = keyed n p.tables p.tables.globals (defaults p.tables p.tables.globals) })
      (sym named.literals)
      ∙ ap (λ z. record { cells = map session.literal_cell q.literals; globals = z }) (sym named.globals))

  module _ {K : Type 0} (r : Recorder K) where
    abbrev At : Piece State K → Piece source_state.State K → State → World K → Type 0
    At f g s w = Here n p.tables f g s w

    abbrev Equal : Answer State K → Answer source_state.State K → Type 0
    Equal a b = AreSame n p.tables a b

    -- ---- bodies and calls

    module _ (call : Caller K) (call' : source.Caller K) (calls : CallsSame n p q named formed call call') where
      same_code : (c : Code Step) → DoSame n p.tables (performed r (step p.tables call) truth c) (performed r (source.step q call') source.truth
          (replaced (as_named n p.tables) c))
      same_code c = same_replaced r _ truth _ source.truth (as_named n p.tables) (Stands n p.tables)
          (λ st. along n p.tables _ _ (same_step n p q named formed call call' calls st))
          (λ s t e. subst (λ z. SameTest (Stands n p.tables) (truth s) (source.truth z)) e (same_truth s)) c

      same_body : (t : Target) (g : Signature) (b : Body) (count : ℕ) (self : CoreValue) (s : State) (w : World K)
          → At (run_body r p.tables call g b count self) (session.run_routine r q call' (named_routine n p.tables t g b) count (named_value n p.tables self))
          s w
      same_body t g b count self s w =
          same_then (back_in p.tables g.result count s) (session.back_in count (named_state n p.tables s))
          (same_returned (put (default g.result)) (source.put (named_value n p.tables (default g.result)))
          (same_code b.code (entered b count self s) (source_state.entered (named_routine n p.tables t g b) count (named_value n p.tables self)
          (named_state n p.tables s)) w at_entry)
          (along n p.tables _ _ (same_put n p.tables (default g.result))) (λ s1 t1 e. e))
          (along n p.tables _ _ (same_taking n p.tables (λ v. of_type p.tables g.result v (λ body. Gives (left count s v body)))
          (λ v body. Gives (source_state.left count (named_state n p.tables s) v body))
          (λ v s1 w1. same_of_type n p.tables g.result v (λ body. Gives (left count s v body)) s1 w1 _ (same.gives (back v s1)))))
        where
          at_entry : named_state n p.tables (entered b count self s)
              ≡ source_state.entered (named_routine n p.tables t g b) count (named_value n p.tables self) (named_state n p.tables s)
          at_entry = ap (λ z. record { values = []; locals = z; self = named_value n p.tables self; heap = named_heap n p.tables s.heap })
              (sym (ap (λ z. reverse z ++ map (named_value n p.tables) (map default b.others)) (take_map (named_value n p.tables) count s.values)
              ∙ onto_map (named_value n p.tables) (take count s.values) (map default b.others)))

          back : (v : CoreValue) (s1 : State) → named_state n p.tables (left count s v s1)
              ≡ source_state.left count (named_state n p.tables s) (named_value n p.tables v) (named_state n p.tables s1)
          back v s1 = ap (λ z. record {
            values = named_value n p.tables v ∷ z;
            locals = map (named_value n p.tables) s.locals;
            self = named_value n p.tables s.self;
            heap = named_heap n p.tables s1.heap;
          })
              (sym (drop_map (named_value n p.tables) count s.values))

    same_opening : (k : ℕ) → CallsSame n p q named formed (called r p k) (session.called r q k) → CallsSame n p q named formed (called r p (suc k))
        (session.called r q (suc k))
    same_opening k calls t count self s w =
        same_had n p.tables (signature_of p.tables t) (λ g. with_found (body_of p t) (λ b. with_arguments p.tables g count
        (opened r (activity t) (run_body r p.tables (called r p k) g b count self)))) s w _
        (λ g eg. same_had n p.tables (body_of p t) (λ b. with_arguments p.tables g count
        (opened r (activity t) (run_body r p.tables (called r p k) g b count self))) s w _
        (λ b eb. same_checked n p.tables (length g.params == count) _ s w _
        (λ ec. same_checked n p.tables (are_of p.tables s.heap.cells (onto g.params []) (take count s.values)) _ s w _
        (λ ea. subst (λ z. Equal (opened r (activity t) (run_body r p.tables (called r p k) g b count self) s w)
        (source.with_found z (theirs t) (named_state n p.tables s) w)) (sym (there g b eg eb ec))
        (subst (λ a. Equal (opened r (activity t) (run_body r p.tables (called r p k) g b count self) s w)
        (opened r a (session.run_routine r q (session.called r q k) (named_routine n p.tables t g b) count (named_value n p.tables self))
        (named_state n p.tables s) w)) (label t)
        (same_opened r (activity t) _ _ (along n p.tables _ _ (same_body (called r p k) (session.called r q k) calls t g b count self)) s
        (named_state n p.tables s) w refl))))))
      where
        theirs : Target → source_step.Routine → Piece source_state.State K
        theirs t routine = opened r (session.activity (named_target n p.tables t) routine.number)
            (session.run_routine r q (session.called r q k) routine count (named_value n p.tables self))

        there : (g : Signature) (b : Body) → signature_of p.tables t ≡ Some g → body_of p t ≡ Some b → (length g.params == count) ≡ true
            → find_called q.routines (named_target n p.tables t) count ≡ Some (named_routine n p.tables t g b)
        there g b eg eb ec = ap (of_count count) (named.routines t g b eg eb) ∙ ap (λ z. if z then Some (named_routine n p.tables t g b) else None) ec

    -- a call does the same, clock for clock, with the same calls active behind each tick
    pub same_called : (k : ℕ) → CallsSame n p q named formed (called r p k) (session.called r q k)
    same_called zero = λ t count self s w. same.overs
    same_called (suc k) = same_opening k (same_called k)

    -- ---- initialisation and runs

    same_alone : (t : Target) (s : State) (w : World K) → At (call_alone r p t) (session.call_alone r q (named_target n p.tables t)) s w
    same_alone t s w = same_then _ _ (same_called w.clock t 0 Null s w) (along n p.tables _ _ (same_taking n p.tables (λ v. go_on) (λ v. go_on)
        (λ v s1 w1. same.gives refl)))

    same_start_all : (names : List ℕ) (k : ℕ) (s : State) (w : World K) → At (start_all r p k names)
        (session.start_all r q (named_components n p.tables k names)) s w
    same_start_all [] k s w = same.gives refl
    same_start_all (x ∷ names) k s w = same_then _ _ (same_alone (Start k) s w) (along n p.tables _ _ (same_start_all names (suc k)))

    pub same_starting : (history : K) (clock : ℕ) → Equal (starting r history p clock) (session.starting r history q clock)
    same_starting history clock =
        subst (λ h. Equal (starting r history p clock)
        (unless (passes (Some 60000) (source_value.stored_values h)) OutOfRoom (session.start_all r q q.components) (session.with_heap h)
        (starting_world history clock))) same_first
        (subst (λ names. Equal (starting r history p clock)
        (unless (passes (Some 60000) (source_value.stored_values (named_heap n p.tables (first_heap p)))) OutOfRoom (session.start_all r q names)
        (session.with_heap (named_heap n p.tables (first_heap p))) (starting_world history clock)))
        (sym named.components)
        (subst (λ room. Equal (starting r history p clock)
        (unless (passes (Some 60000) room) OutOfRoom (session.start_all r q (named_components n p.tables 0 p.tables.components))
        (session.with_heap (named_heap n p.tables (first_heap p))) (starting_world history clock)))
        (sym (same_stored n p.tables (first_heap p)))
        (same_unless (passes (Some 60000) (stored_values (first_heap p))) OutOfRoom (start_all r p 0 p.tables.components)
        (session.start_all r q (named_components n p.tables 0 p.tables.components))
        (along n p.tables _ _ (same_start_all p.tables.components 0)) (with_heap (first_heap p)) (session.with_heap (named_heap n p.tables (first_heap p)))
        (starting_world history clock) refl)))

    same_handled : (v : ℕ) (s : State) (w : World K) → At (handled r p (handler_of p.handlers v)) (session.handle r q v) s w
    same_handled v s w =
        subst (λ o. Equal (handled r p (handler_of p.handlers v) s w) (session.handled r q o (named_state n p.tables s) w))
        (sym (ap (λ hs. source_state.handler_of hs v) named.handlers ∙ handler_same p.handlers v)) (by (handler_of p.handlers v))
      where
        by : (o : Option ℕ) → Equal (handled r p o s w) (session.handled r q (option_map (λ m. named_target n p.tables (Run m)) o) (named_state n p.tables s) w)
        by (Some m) = same_alone (Run m) s w
        by None = same.gives refl

    pub same_running : (h : Heap) (history : K) (deepest : Option ℕ) (reads interrupts : List ℕ) (clock : ℕ)
        → Equal (running r history p h deepest reads interrupts clock) (session.running r history q (named_heap n p.tables h) deepest reads interrupts clock)
    same_running h history deepest reads interrupts clock =
        same_then _ _
        (subst (λ t. Equal (call_alone r p (Run p.main) (with_heap h) (running_world history deepest reads interrupts clock))
        (session.call_alone r q t (session.with_heap (named_heap n p.tables h)) (running_world history deepest reads interrupts clock))) (sym named.main)
        (same_alone (Run p.main) (with_heap h) (running_world history deepest reads interrupts clock)))
        (same_idles (length interrupts) _ _ (λ v. along n p.tables _ _ (same_handled v)))

-- ---- well typed programs

module _ (n : Naming) (p : Program) (q : Source) (named : IsNamed n p q) (good : WellTyped p) {K : Type 0} (r : Recorder K) where
  pub alike_starting : (history : K) (clock : ℕ) → Alike (starting r history p clock) (session.starting r history q clock)
  alike_starting history clock = same_shown _ _ _ _ _ (same_starting n p q named good.tables r history clock) (safe_starting p good r history clock)

  pub alike_running : (h : Heap) (κ : List Kind) → TypedHeap p.tables κ h → (history : K) (deepest : Option ℕ) (reads interrupts : List ℕ) (clock : ℕ)
      → Alike (running r history p h deepest reads interrupts clock) (session.running r history q (named_heap n p.tables h) deepest reads interrupts clock)
  alike_running h κ typed history deepest reads interrupts clock =
      same_shown _ _ _ _ _ (same_running n p q named good.tables r h history deepest reads interrupts clock)
      (safe_running p good r κ h typed history deepest reads interrupts clock)

-- ---- what is shown

-- answers that show the same are one session
shown_alike : (a : Answer State History) (b : Answer source_state.State History) → Alike a b → session_of a ≡ session.session_of b
shown_alike (Gives s w) (Gives t v) e = ap (λ z. record { trace = z.outside.trace; ending = None; history = z.history }) e
shown_alike (Ends why s w) (Ends because t v) (e, f) =
    ap (λ z. record { trace = w.outside.trace; ending = session.ending_of z; history = w.history }) e
    ∙ ap (λ z. record { trace = z.outside.trace; ending = session.ending_of because; history = z.history }) f
shown_alike (Gives s w) (Ends because t v) e = absurd e
shown_alike (Ends why s w) (Gives t v) e = absurd e

-- an initialisation that is never Wrong gives the same heap
started_alike : (n : Naming) (p : Tables) {G : State → History → Type 0} (a : Answer State History) (b : Answer source_state.State History)
    → AreSame n p a b → Safe G NoWay IsRight a → named_start n p (start_of a) ≡ session.start_of b
started_alike n p _ _ (same.gives e) h = ap (λ t. session.Started t.heap) e
started_alike n p _ _ (same.leaves e) (leaves h) = absurd h
started_alike n p _ _ (same.leaves {why = Over why} e) (overs h) = refl
started_alike n p _ _ same.overs h = refl
started_alike n p _ _ same.wrong (leaves h) = absurd h
started_alike n p _ _ same.wrong (overs h) = absurd h

module _ (n : Naming) (p : Program) (q : Source) (named : IsNamed n p q) (good : WellTyped p) where
  pub same_started : (clock : ℕ) → named_start n p.tables (started p clock) ≡ session.started q clock
  same_started clock = started_alike n p.tables _ _ (same_starting n p q named good.tables full no_history clock) (safe_starting p good full no_history clock)

  pub same_session : (h : Heap) → HasTypedHeap p.tables h → (deepest : Option ℕ) (reads interrupts : List ℕ) (clock : ℕ)
      → core_session p h deepest reads interrupts clock ≡ session.session q (named_heap n p.tables h) deepest reads interrupts clock
  same_session h (κ, typed) deepest reads interrupts clock =
      shown_alike _ _ (alike_running n p q named good full h κ typed no_history deepest reads interrupts clock)
