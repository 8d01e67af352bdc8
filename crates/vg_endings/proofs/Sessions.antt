-- A well typed program is never Wrong, its runs show what those of its source program do, and these end as runs do: so each session has an ending.
use Rattle.std.specs.Prelude.{ℕ, List, Option, Some, None}
use Rattle.std.proofs.Common.{◌≡◌, ◌≢◌, refl, sym, ap, ◌∙◌, subst}
use Rattle.vg_meaning.specs.History.{History, full, no_history}
use Rattle.vg_meaning.specs.World.{World}
use Rattle.vg_meaning.specs.Ending as ending
use Rattle.vg_meaning.specs.Answer.{End, Stops, Wants, Touches, Done, OutOfClock, OutOfDepth, OutOfRoom, Wrong, Over}
use Rattle.vg_meaning.specs.Answer.{Answer, Gives, Ends}
use Rattle.vg_meaning.specs.Safe.{Safe, gives, leaves, overs, NoWay, IsRight, Alike}
use Rattle.vg_source.specs.Steps.{Source}
use Rattle.vg_source.specs.Values as source_value
use Rattle.vg_source.specs.State as source_state
use Rattle.vg_source.specs.Session as source
use Rattle.vg_core.specs.declared.heap.Heap.{Heap}
use Rattle.vg_core.specs.Naming.{Naming, named_heap}
use Rattle.vg_core.specs.Program.{Program}
use Rattle.vg_core.specs.Session.{start_of, starting, running}
use Rattle.vg_core.specs.State.{State}
use Rattle.vg_core.specs.Typing.{WellTyped}
use Rattle.vg_sound.specs.Good.{HasTypedHeap, HoldsTypedHeap}
use Rattle.vg_sound.proofs.Runs.{right_starting, right_running}
use Rattle.vg_renamed.specs.IsNamed.{IsNamed}
use Rattle.vg_renamed.specs.Stands.{named_start}
use Rattle.vg_renamed.proofs.Calls.{same_started, alike_running}
use Rattle.vg_endings.specs.InRun.{IsEnd, IsSignal, EndsRun}
use Rattle.vg_endings.proofs.Ending.{ends_running}

-- an end of a run that is not Wrong is an ending
some_not_none : {A : Type 0} (a : A) → Some a ≢ None
some_not_none a e = let clash : Some a ≡ None = e in cc

has_ending : (d : Option ℕ) (why : End) → IsEnd d why → (why ≡ Wrong → ⊥) → source.ending_of (Over why) ≢ None
has_ending d (Stops code at) e r = some_not_none (ending.Stop code)
has_ending d (Wants address) e r = some_not_none (ending.Wants address)
has_ending d (Touches address) e r = elim e [ ]
has_ending d Done e r = some_not_none ending.Idle
has_ending d OutOfClock e r = some_not_none ending.Beyond
has_ending d OutOfDepth e r = some_not_none ending.Deep
has_ending d OutOfRoom e r = elim e [ ]
has_ending d Wrong e r = absurd (r refl)

some_same : {A : Type 0} (a b : A) → Some a ≡ Some b → a ≡ b
some_same a b e = cc

is_deep : (why : End) → source.ending_of (Over why) ≡ Some ending.Deep → why ≡ OutOfDepth
is_deep (Stops code at) e = absurd (let clash : ending.Stop code ≡ ending.Deep = some_same _ _ e in cc)
is_deep (Wants address) e = absurd (let clash : ending.Wants address ≡ ending.Deep = some_same _ _ e in cc)
is_deep (Touches address) e = absurd (let clash : None ≡ Some ending.Deep = e in cc)
is_deep Done e = absurd (let clash : ending.Idle ≡ ending.Deep = some_same _ _ e in cc)
is_deep OutOfClock e = absurd (let clash : ending.Beyond ≡ ending.Deep = some_same _ _ e in cc)
is_deep OutOfDepth e = refl
is_deep OutOfRoom e = absurd (let clash : None ≡ Some ending.Deep = e in cc)
is_deep Wrong e = absurd (let clash : None ≡ Some ending.Deep = e in cc)

right_is_not_wrong : {H : Type 0} (why : End) (h : H) → IsRight why h → why ≡ Wrong → ⊥
right_is_not_wrong why h r e = subst (λ x. IsRight x h) e r

-- what ends as a run does, and shows what never goes wrong, has an ending
module _ {S T H : Type 0} (d : Option ℕ) (G : S → H → Type 0) where
  over_why : (a : Answer S H) (b : Answer T H) → Safe G NoWay IsRight a → Alike a b → EndsRun d b
      → (why : End) × (s : T) × (w : World H) × (b ≡ Ends (Over why) s w) × IsEnd d why × (why ≡ Wrong → ⊥)
  over_why (Gives s w) (Gives t v) safe same ends = elim ends [ ]
  over_why (Gives s w) (Ends why t v) safe same ends = elim same [ ]
  over_why (Ends why s w) (Gives t v) safe same ends = elim same [ ]
  over_why (Ends why s w) (Ends because t v) (leaves l) same ends = elim l [ ]
  over_why (Ends (Over why) s w) (Ends because t v) (overs r) same ends =
      (why, t, v, ap (λ x. Ends x t v) (sym same.0), subst (IsSignal d) (sym same.0) ends, right_is_not_wrong why w.history r)

-- the session of an answer whose run is over for this reason
shown : (b : Answer source_state.State History) (why : End) (s : source_state.State) (w : World History) → b ≡ Ends (Over why) s w
    → (source.session_of b).ending ≡ source.ending_of (Over why)
shown b why s w e = ap (λ x. (source.session_of x).ending) e

started_same : (h k : source_value.Heap) → source.Started h ≡ source.Started k → h ≡ k
started_same h k e = cc

failed_started : (why : End) (heap : source_value.Heap) → source.Failed why ≡ source.Started heap → ⊥
failed_started why heap e = cc

module _ (n : Naming) (p : Program) (q : Source) (named : IsNamed n p q) (good : WellTyped p) where
  -- from a typed heap
  module _ (h : Heap) (typed : HasTypedHeap p.tables h) (d : Option ℕ) (reads interrupts : List ℕ) (clock : ℕ) where
    abbrev answer : Answer source_state.State History
    answer = source.running full no_history q (named_heap n p.tables h) d reads interrupts clock

    whole : (why : End) × (s : source_state.State) × (w : World History) × (answer ≡ Ends (Over why) s w) × IsEnd d why × (why ≡ Wrong → ⊥)
    whole =
        over_why d (HoldsTypedHeap p.tables) (running full no_history p h d reads interrupts clock) answer
        (right_running p good full h typed no_history d reads interrupts clock)
        (alike_running n p q named good full h typed.0 typed.1 no_history d reads interrupts clock)
        (ends_running full no_history q (named_heap n p.tables h) d reads interrupts clock)

    pub typed_session_ends : (source.session q (named_heap n p.tables h) d reads interrupts clock).ending ≢ None
    typed_session_ends e =
        let (why, s, w, is, ends, right) = whole in
        has_ending d why ends right (sym (shown answer why s w is) ∙ e)

  pub typed_session_is_not_deep : (h : Heap) → HasTypedHeap p.tables h → (reads interrupts : List ℕ) (clock : ℕ)
      → (source.session q (named_heap n p.tables h) None reads interrupts clock).ending ≢ Some ending.Deep
  typed_session_is_not_deep h typed reads interrupts clock e =
      let (why, s, w, is, ends, right) = whole h typed None reads interrupts clock in
      subst (IsEnd None) (is_deep why (sym (shown _ why s w is) ∙ e)) ends

  -- what initialisation gave is a typed heap with names in place of numbers
  pub started_typed : (clock : ℕ) (heap : source_value.Heap) → source.started q clock ≡ source.Started heap
      → (h : Heap) × HasTypedHeap p.tables h × (heap ≡ named_heap n p.tables h)
  started_typed clock heap e =
      by (starting full no_history p clock) (right_starting p good full no_history clock) (same_started n p q named good clock ∙ e)
    where
      by : (a : Answer State History) → Safe (HoldsTypedHeap p.tables) NoWay IsRight a → named_start n p.tables (start_of a) ≡ source.Started heap
          → (h : Heap) × HasTypedHeap p.tables h × (heap ≡ named_heap n p.tables h)
      by (Gives s w) (gives g) e = (s.heap, g, sym (started_same _ _ e))
      by (Ends why s w) (leaves l) e = elim l [ ]
      by (Ends (Over why) s w) (overs r) e = absurd (failed_started why heap e)

  -- from the heap that initialisation gave
  pub session_ends : (c : ℕ) (heap : source_value.Heap) → source.started q c ≡ source.Started heap
      → (d : Option ℕ) (reads interrupts : List ℕ) (clock : ℕ) → (source.session q heap d reads interrupts clock).ending ≢ None
  session_ends c heap e d reads interrupts clock =
      let (h, typed, is) = started_typed c heap e in
      subst (λ x. (source.session q x d reads interrupts clock).ending ≢ None) (sym is) (typed_session_ends h typed d reads interrupts clock)

  pub session_is_not_deep : (c : ℕ) (heap : source_value.Heap) → source.started q c ≡ source.Started heap
      → (reads interrupts : List ℕ) (clock : ℕ) → (source.session q heap None reads interrupts clock).ending ≢ Some ending.Deep
  session_is_not_deep c heap e reads interrupts clock =
      let (h, typed, is) = started_typed c heap e in
      subst (λ x. (source.session q x None reads interrupts clock).ending ≢ Some ending.Deep) (sym is)
      (typed_session_is_not_deep h typed reads interrupts clock)
