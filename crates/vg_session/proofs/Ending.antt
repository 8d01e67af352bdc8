-- How initialisation and sessions end: a well typed program is never Wrong, initialisation ends as such, and a run as a run does. What is kept of the
-- history changes neither heap, trace nor ending.
use Rattle.std.specs.Prelude.{ℕ, ◌≤◌, Bool, true, false, List, length, Option, Some, None, Result, Ok, Err}
use Rattle.std.proofs.Common.{◌≡◌, refl, sym, ap, ◌∙◌, subst}
use Rattle.vg_base.specs.declared.refusal.Refusal.{Refusal}
use Rattle.vg_base.specs.declared.refusal.Refusal.TheVariants.{Fault, NoMemory as Memory}
use Rattle.vg_meaning.specs.declared.event.Event.{Event}
use Rattle.vg_meaning.specs.Answer.{End, Stops, Wants, Touches, Done, OutOfClock, OutOfDepth, OutOfRoom, Wrong, Signal as Why, Breaks, Continues, Returns, Over}
use Rattle.vg_meaning.specs.Answer.{Answer, Gives, Ends, kept, and_then}
use Rattle.vg_meaning.specs.Interrupts.{idles}
use Rattle.vg_meaning.specs.Ending.{Ending}
use Rattle.vg_meaning.specs.Ending as ending
use Rattle.vg_meaning_laws.specs.Grows.{trace_of, Extends}
use Rattle.vg_meaning.specs.History.{History, full, depth_alone, depth_of, no_history}
use Rattle.vg_meaning.specs.Safe.{Safe, gives, leaves, overs, NoWay, IsRight}
use Rattle.vg_meaning_laws.specs.Told as of
use Rattle.vg_meaning_laws.specs.Told.{told, Told}
use Rattle.vg_meaning.specs.World.{World, Starting}
use Rattle.vg_meaning_laws.proofs.Told.{depth_follows}
use Rattle.vg_source.specs.Session.{ending_of, running_world}
use Rattle.vg_core.specs.declared.heap.Heap.{Heap}
use Rattle.vg_core.specs.declared.program.Program.{Program as HeldProgram}
use Rattle.vg_core.specs.declared.program.Tables.{Tables}
use Rattle.vg_core.specs.declared.program.Target.TheVariants.{Run as OfMethod}
use Rattle.vg_core.specs.HeldProgram.{program_at}
use Rattle.vg_core.specs.Program.{Program}
use Rattle.vg_core.specs.Session.{Started, Failed, start_of, starting, started, running, session, session_of, with_heap, call_alone, handle}
use Rattle.vg_core.specs.State.{State}
use Rattle.vg_core.specs.Typing.{WellTyped}
use Rattle.vg_sound.specs.Good.{HasTypedHeap, HoldsTypedHeap}
use Rattle.vg_sound.proofs.Runs.{right_starting, right_running}
use Rattle.vg_recorded.specs.Setting.{EndsStart, EndsRun}
use Rattle.vg_recorded.proofs.Runs.{told_starting, told_running, ends_starting, ends_running, tells_itself}
use Rattle.vg_interp_run.specs.declared.signal.Signal.{Signal}
use Rattle.vg_interp_run.specs.declared.signal.Signal.TheVariants as signal
use Rattle.vg_interp_run.specs.declared.run.Run.{Run}
use Rattle.vg_interp_run.specs.Run.{state, world, Answers, Signals, IsWrong}
use Rattle.vg_interp_sessions.specs.Starts.{Starts}
use Rattle.vg_session.specs.declared.initialisation.InitFault.{InitFault}
use Rattle.vg_session.specs.declared.session.SessionEnd.{SessionEnd}
use Rattle.vg_session.specs.declared.session.SessionEnd.TheVariants as end
use Rattle.vg_session.specs.Initialises.{why_of, Initialises}
use Rattle.vg_session.specs.Ends.{session_on, EndsAs}
use Rattle.vg_session.specs.Playing.{CanFail, FailsBy, CanEnd, HasMemory, Lacks, IsEndOf, EndsBy, from_main, Leaves}
use Rattle.vg_outlet.specs.Puts.{Moment, IsPut, PutsOf}
use Rattle.vg_outlet.proofs.Puts.{put_first, put_front, put_failed, put_later, put_whole}
use Rattle.vg_meaning_laws.proofs.Grows.{extends_itself}
use Rattle.vg_script.specs.Script.{Lists}

-- ---- what never comes

-- no well typed program leaves a call but by its end
no_leave : {H : Type 0} (G : State → H → Type 0) (why : Why) (s : State) (w : World H) → Safe G NoWay IsRight (Ends why s w)
    → (why ≡ Breaks → ⊥) × (why ≡ Continues → ⊥) × (why ≡ Returns → ⊥)
no_leave G why s w (leaves l) = absurd l
no_leave G why s w (overs r) = (
  λ e. let clash : Over _ ≡ Breaks = e in cc,
  λ e. let clash : Over _ ≡ Continues = e in cc,
  λ e. let clash : Over _ ≡ Returns = e in cc,
)

never_wrong : (G : State → ℕ → Type 0) (a : Answer State ℕ) → Safe G NoWay IsRight a → IsWrong a → ⊥
never_wrong G _ (gives g) h = h
never_wrong G _ (leaves l) h = l
never_wrong G _ (overs {why = Stops code at} r) h = h
never_wrong G _ (overs {why = Wants address} r) h = h
never_wrong G _ (overs {why = Touches address} r) h = h
never_wrong G _ (overs {why = Done} r) h = h
never_wrong G _ (overs {why = OutOfClock} r) h = h
never_wrong G _ (overs {why = OutOfDepth} r) h = h
never_wrong G _ (overs {why = OutOfRoom} r) h = h
never_wrong G _ (overs {why = Wrong} r) h = r

never : {B : Type 0} (P : Answer State ℕ → Type 0) (a b : Answer State ℕ) → P a → a ≡ b → (P b → ⊥) → B
never P a b p e clash = absurd (clash (subst P e p))

-- ---- initialisation

module _ (G : State → ℕ → Type 0) (s : State) (w : World ℕ) where
  can_fail : (why : Signal) (a : Answer State ℕ) → Safe G NoWay IsRight a → EndsStart a → Signals why s w a → CanFail why
  can_fail signal.Break a safe e h = never (Safe G NoWay IsRight) a (Ends Breaks s w) safe h (λ x. (no_leave G Breaks s w x).0 refl)
  can_fail signal.Continue a safe e h = never (Safe G NoWay IsRight) a (Ends Continues s w) safe h (λ x. (no_leave G Continues s w x).1 refl)
  can_fail signal.Return a safe e h = never (Safe G NoWay IsRight) a (Ends Returns s w) safe h (λ x. (no_leave G Returns s w x).2 refl)
  can_fail (signal.Stops code at) a safe e h = tt
  can_fail (signal.Wants address) a safe e h = never EndsStart a _ e h (λ x. x)
  can_fail (signal.Touches address) a safe e h = tt
  can_fail signal.Done a safe e h = never EndsStart a _ e h (λ x. x)
  can_fail signal.OutOfClock a safe e h = tt
  can_fail signal.OutOfDepth a safe e h = tt
  can_fail signal.OutOfRoom a safe e h = tt
  can_fail signal.Wrong a safe e h = absurd (never_wrong G a safe h)
  can_fail signal.NoMemory a safe e h = tt

-- what was answered is what initialisation gives
fails_over : (f : InitFault) (a : Answer State ℕ) (s : State) (w : World ℕ) (why : End) → a ≡ Ends (Over why) s w → why_of f ≡ why
    → start_of a ≡ Failed (why_of f)
fails_over f a s w why e k = ap start_of e ∙ ap Failed (sym k)

fails_stop : (f : InitFault) (a : Answer State ℕ) (s : State) (w : World ℕ) (code at : ℕ) → EndsStart a → a ≡ Ends (Over (Stops code (kept w.phase at))) s w
    → why_of f ≡ Stops code (Some at) → start_of a ≡ Failed (why_of f)
fails_stop f a s w code at ends e k =
    let phase : w.phase ≡ Starting = subst EndsStart e ends in
    fails_over f a s w (Stops code (kept w.phase at)) e (k ∙ ap (λ x. Stops code (kept x at)) (sym phase))

pub initialises : (r : Refusal InitFault) (why : Signal) (s : State) (w : World ℕ) (a : Answer State ℕ) → EndsStart a → Signals why s w a → FailsBy r why
    → Initialises (Err r) (start_of a)
initialises (Fault f) signal.Break s w a ends h k = absurd k
initialises (Fault f) signal.Continue s w a ends h k = absurd k
initialises (Fault f) signal.Return s w a ends h k = absurd k
initialises (Fault f) (signal.Stops code at) s w a ends h k = fails_stop f a s w code at ends h k
initialises (Fault f) (signal.Wants address) s w a ends h k = absurd k
initialises (Fault f) (signal.Touches address) s w a ends h k = fails_over f a s w (Touches address) h k
initialises (Fault f) signal.Done s w a ends h k = absurd k
initialises (Fault f) signal.OutOfClock s w a ends h k = fails_over f a s w OutOfClock h k
initialises (Fault f) signal.OutOfDepth s w a ends h k = fails_over f a s w OutOfDepth h k
initialises (Fault f) signal.OutOfRoom s w a ends h k = fails_over f a s w OutOfRoom h k
initialises (Fault f) signal.Wrong s w a ends h k = absurd k
initialises (Fault f) signal.NoMemory s w a ends h k = absurd k
initialises Memory why s w a ends h k = tt

-- less history, the same heap or the same reason
start_told : (f : History → ℕ) (a : Answer State History) (b : Answer State ℕ) → Told f a b → start_of a ≡ start_of b
start_told f _ _ of.gives = refl
start_told f _ _ (of.ends {why = Breaks}) = refl
start_told f _ _ (of.ends {why = Continues}) = refl
start_told f _ _ (of.ends {why = Returns}) = refl
start_told f _ _ (of.ends {why = Over why}) = refl

typed_start : (G : State → ℕ → Type 0) (p : Tables) (h : Heap) (a : Answer State ℕ) → ((s : State) (d : ℕ) → G s d → HasTypedHeap p s.heap)
    → Safe G NoWay IsRight a → start_of a ≡ Started h → HasTypedHeap p h
typed_start G p h _ k (gives {s = s} {w = w} g) e = let same : s.heap ≡ h = started_heap s.heap h e in subst (HasTypedHeap p) same (k s w.history g)
  where
    started_heap : (x y : Heap) → Started x ≡ Started y → x ≡ y
    started_heap x y e = cc
typed_start G p h _ k (leaves l) e = absurd l
typed_start G p h _ k (overs r) e = let clash : Failed _ ≡ Started h = e in cc

module _ (p : Program) (good : WellTyped p) (clock : ℕ) where
  abbrev start : Answer State ℕ
  start = starting depth_alone 0 p clock

  safe_start : Safe (HoldsTypedHeap p.tables) NoWay IsRight start
  safe_start = right_starting p good depth_alone 0 clock

  ends_start : EndsStart start
  ends_start = ends_starting (λ h. h) depth_alone depth_alone (tells_itself depth_alone) 0 p clock

  same_start : started p clock ≡ start_of start
  same_start = start_told depth_of _ _ (told_starting depth_of full depth_alone depth_follows no_history p clock)

  pub heap_given : (h : Heap) → Starts (Ok h) start → started p clock ≡ Started h
  heap_given h e = same_start ∙ e

  pub heap_typed : (h : Heap) → Starts (Ok h) start → HasTypedHeap p.tables h
  heap_typed h e = typed_start (HoldsTypedHeap p.tables) p.tables h start (λ s d g. g) safe_start e

  pub fault_can : (why : Signal) → Starts (Err why) start → CanFail why
  fault_can why (s, w, h) = can_fail (HoldsTypedHeap p.tables) s w why start safe_start ends_start h

  pub fault_given : (why : Signal) (r : Refusal InitFault) → Starts (Err why) start → FailsBy r why → Initialises (Err r) (started p clock)
  fault_given why r (s, w, h) k = subst (Initialises (Err r)) (sym same_start) (initialises r why s w start ends_start h k)

-- ---- sessions

module _ {A : Type 0} (G : State → ℕ → Type 0) (s : State) (w : World ℕ) where
  can_end : (r : Result A Signal) (a : Answer State ℕ) → Safe G NoWay IsRight a → EndsRun (Some 400) a → Answers r s w a → HasMemory r → CanEnd r
  can_end (Ok u) a safe e h m = never (EndsRun (Some 400)) a (Gives s w) e h (λ x. x)
  can_end (Err signal.Break) a safe e h m = never (Safe G NoWay IsRight) a (Ends Breaks s w) safe h (λ x. (no_leave G Breaks s w x).0 refl)
  can_end (Err signal.Continue) a safe e h m = never (Safe G NoWay IsRight) a (Ends Continues s w) safe h (λ x. (no_leave G Continues s w x).1 refl)
  can_end (Err signal.Return) a safe e h m = never (Safe G NoWay IsRight) a (Ends Returns s w) safe h (λ x. (no_leave G Returns s w x).2 refl)
  can_end (Err (signal.Stops code at)) a safe e h m = tt
  can_end (Err (signal.Wants address)) a safe e h m = tt
  can_end (Err (signal.Touches address)) a safe e h m = never (EndsRun (Some 400)) a _ e h (λ x. x)
  can_end (Err signal.Done) a safe e h m = tt
  can_end (Err signal.OutOfClock) a safe e h m = tt
  can_end (Err signal.OutOfDepth) a safe e h m = tt
  can_end (Err signal.OutOfRoom) a safe e h m = never (EndsRun (Some 400)) a _ e h (λ x. x)
  can_end (Err signal.Wrong) a safe e h m = absurd (never_wrong G a safe h)
  can_end (Err signal.NoMemory) a safe e h m = absurd m

-- the ending of an answer
abbrev end_of : {H : Type 0} → Answer State H → Option Ending
end_of (Gives s w) = None
end_of (Ends why s w) = ending_of why

trace_told : (f : History → ℕ) (a : Answer State History) (b : Answer State ℕ) → Told f a b → (session_of a).trace ≡ trace_of b
trace_told f _ _ of.gives = refl
trace_told f _ _ of.ends = refl

end_told : (f : History → ℕ) (a : Answer State History) (b : Answer State ℕ) → Told f a b → (session_of a).ending ≡ end_of b
end_told f _ _ of.gives = refl
end_told f _ _ of.ends = refl

-- the end of a session is that of its signal
ends_signal : (A : Type 0) (s : State) (w : World ℕ) (a : Answer State ℕ) (e : SessionEnd) (why : Signal) → EndsBy {A = A} e (Err why) → Signals why s w a
    → EndsAs e (end_of a)
ends_signal A s w a end.SinkFailed why k h = tt
ends_signal A s w a end.NoMemory why k h = tt
ends_signal A s w a end.Idle signal.Done k h = ap end_of h
ends_signal A s w a (end.Stop code) (signal.Stops c at) k h = ap end_of h ∙ ap (λ x. Some (ending.Stop x)) k
ends_signal A s w a (end.Wants address) (signal.Wants x) k h = ap end_of h ∙ ap (λ x. Some (ending.Wants x)) k
ends_signal A s w a end.Budget signal.OutOfClock k h = ap end_of h
ends_signal A s w a end.Depth signal.OutOfDepth k h = ap end_of h
ends_signal A s w a _ _ k h = absurd k

-- what a session shows that goes no further, where memory was not wanting
module _ {A : Type 0} (s : State) (w : World ℕ) (a : Answer State ℕ) where
  pub trace_is : (r : Result A Signal) → CanEnd r → Answers r s w a → trace_of a ≡ w.outside.trace
  trace_is (Err signal.Done) c h = ap trace_of h
  trace_is (Err (signal.Stops code at)) c h = ap trace_of h
  trace_is (Err (signal.Wants address)) c h = ap trace_of h
  trace_is (Err signal.OutOfClock) c h = ap trace_of h
  trace_is (Err signal.OutOfDepth) c h = ap trace_of h
  trace_is (Ok u) c h = absurd c
  trace_is (Err signal.Break) c h = absurd c
  trace_is (Err signal.Continue) c h = absurd c
  trace_is (Err signal.Return) c h = absurd c
  trace_is (Err (signal.Touches address)) c h = absurd c
  trace_is (Err signal.OutOfRoom) c h = absurd c
  trace_is (Err signal.Wrong) c h = absurd c
  trace_is (Err signal.NoMemory) c h = absurd c

  pub ends_so : (e : SessionEnd) (r : Result A Signal) → (HasMemory r → CanEnd r) → EndsBy e r → Answers r s w a → EndsAs e (end_of a)
  ends_so e (Err why) c k h = ends_signal A s w a e why k h
  ends_so e (Ok u) c k h = absurd (c tt)

module _ (p : Program) (good : WellTyped p) (heap : Heap) (typed : HasTypedHeap p.tables heap) (reads interrupts : List ℕ) (clock : ℕ) where
  abbrev pub run_of : Answer State ℕ
  run_of = running depth_alone 0 p heap (Some 400) reads interrupts clock

  is_told : Told depth_of (running full no_history p heap (Some 400) reads interrupts clock) run_of
  is_told = told_running depth_of full depth_alone depth_follows no_history p heap (Some 400) reads interrupts clock

  pub same_trace : trace_of run_of ≡ (session p heap (Some 400) reads interrupts clock).trace
  same_trace = sym (trace_told depth_of _ _ is_told)

  pub same_end : end_of run_of ≡ (session p heap (Some 400) reads interrupts clock).ending
  same_end = sym (end_told depth_of _ _ is_told)

  pub run_can_end : {A : Type 0} (r : Result A Signal) (s : State) (w : World ℕ) → Answers r s w run_of → HasMemory r → CanEnd r
  run_can_end r s w h m =
      can_end (HoldsTypedHeap p.tables) s w r run_of (right_running p good depth_alone heap typed 0 (Some 400) reads interrupts clock)
      (ends_running (λ h. h) depth_alone depth_alone (tells_itself depth_alone) 0 p heap (Some 400) reads interrupts clock) h m

-- the run of the code is that of the definition
pub run_is : (p : HeldProgram) (r : Run) (heap : Heap) (reads interrupts : List ℕ) (clock : ℕ) → state r ≡ with_heap heap
    → world r ≡ running_world 0 (Some 400) reads interrupts clock
    → from_main p r ≡ running depth_alone 0 (program_at p) heap (Some 400) reads interrupts clock
run_is p r heap reads interrupts clock e f =
    let q = program_at p in
    ap (λ s. and_then (call_alone depth_alone q (OfMethod p.main) s (world r)) (idles (length (world r).outside.interrupts) (handle depth_alone q))) e
    ∙ ap (λ w. and_then (call_alone depth_alone q (OfMethod p.main) (with_heap heap) w) (idles (length w.outside.interrupts) (handle depth_alone q))) f

-- a session that was played to its end
module _ (p : HeldProgram) (good : WellTyped (program_at p)) (heap : Heap) (typed : HasTypedHeap p.tables heap) (script : Lists) (clock : ℕ) (first : Run)
    (begins : state first ≡ with_heap heap) (around : world first ≡ running_world 0 (Some 400) script.reads script.interrupts clock) where
  abbrev whole_run : Answer State ℕ
  whole_run = running depth_alone 0 (program_at p) heap (Some 400) script.reads script.interrupts clock

  is_whole : from_main p first ≡ whole_run
  is_whole = run_is p first heap script.reads script.interrupts clock begins around

  pub played_trace : trace_of (from_main p first) ≡ (session_on p heap script clock).trace
  played_trace = ap trace_of is_whole ∙ same_trace (program_at p) good heap typed script.reads script.interrupts clock

  module _ (ended : Result (Unit {0}) Signal) (last : Run) (answers : Answers ended (state last) (world last) (from_main p first)) where
    answered : Answers ended (state last) (world last) whole_run
    answered = subst (Answers ended (state last) (world last)) is_whole answers

    pub played_can_end : HasMemory ended → CanEnd ended
    played_can_end memory = run_can_end (program_at p) good heap typed script.reads script.interrupts clock ended (state last) (world last) answered memory

    pub played_ends : (e : SessionEnd) → EndsBy e ended → EndsAs e (session_on p heap script clock).ending
    played_ends e h =
        subst (EndsAs e) (same_end (program_at p) good heap typed script.reads script.interrupts clock)
        (ends_so (state last) (world last) whole_run e ended played_can_end h answered)

    pub played_seen : HasMemory ended → trace_of (from_main p first) ≡ (world last).outside.trace
    played_seen memory = ap trace_of is_whole ∙ trace_is (state last) (world last) whole_run ended (played_can_end memory) answered

    -- what a session leaves, where nothing was put before it
    pub played_leaves : (a b : Option (List ℕ)) (f g put : ℕ) (failed : Bool) (m : Moment) (e : SessionEnd) → put ≡ 0 → failed ≡ false
        → PutsOf (record { told = a; faults = f; put = put; failed = failed }) m (trace_of (from_main p first))
        → ((told : Option (List ℕ)) (faults : ℕ) (whole : List Event) → IsPut told faults m whole → (HasMemory ended → whole ≡ (world last).outside.trace)
        → Leaves e told faults b g whole)
        → Leaves e a f b g (session_on p heap script clock).trace
    played_leaves a b f g put failed m e none well puts left =
        let whole = trace_of (from_main p first) in
        subst (Leaves e a f b g) played_trace
        (left a f whole (puts.holds a f whole (extends_itself whole) (put_first a f put failed whole none well)) played_seen)

-- how the lines of a trace are left
pub leaves_failed : (a : Option (List ℕ)) (f : ℕ) (m : Moment) (t : List Event) → IsPut a f m t → m.failed ≡ true → Leaves end.SinkFailed a f m.told m.faults t
leaves_failed a f m t is e = (put_front a f m t is, put_failed a f m t is e, put_later a f m t is)

pub leaves_front : (a : Option (List ℕ)) (f : ℕ) (m : Moment) (t : List Event) → IsPut a f m t → Leaves end.NoMemory a f m.told m.faults t
leaves_front a f m t is = (put_front a f m t is, tt, put_later a f m t is)

pub leaves_whole : {A : Type 0} (e : SessionEnd) (r : Result A Signal) (a : Option (List ℕ)) (f : ℕ) (m : Moment) (t : List Event) → IsEndOf e r → IsPut a f m t
    → m.failed ≡ false → length t ≤ m.put → Leaves e a f m.told m.faults t
leaves_whole end.Idle r a f m t k is e h = (put_whole a f m t is e h, tt, put_later a f m t is)
leaves_whole (end.Stop code) r a f m t k is e h = (put_whole a f m t is e h, tt, put_later a f m t is)
leaves_whole (end.Wants address) r a f m t k is e h = (put_whole a f m t is e h, tt, put_later a f m t is)
leaves_whole end.Budget r a f m t k is e h = (put_whole a f m t is e h, tt, put_later a f m t is)
leaves_whole end.Depth r a f m t k is e h = (put_whole a f m t is e h, tt, put_later a f m t is)
leaves_whole end.SinkFailed (Ok u) a f m t k is e h = absurd k
leaves_whole end.SinkFailed (Err why) a f m t k is e h = absurd k
leaves_whole end.NoMemory (Ok u) a f m t k is e h = absurd k
leaves_whole end.NoMemory (Err why) a f m t k is e h = absurd k

-- the lines that were left are put
module _ (a : Option (List ℕ)) (f : ℕ) (m n : Moment) (es t : List Event) (same : es ≡ t) (puts : PutsOf m n es) (is : IsPut a f m t) where
  is_put : IsPut a f n t
  is_put = puts.holds a f t (subst (λ x. Extends x t) (sym same) (extends_itself t)) is

  pub rest_whole : {A : Type 0} (e : SessionEnd) (r : Result A Signal) → IsEndOf e r → n.failed ≡ false → length es ≤ n.put → Leaves e a f n.told n.faults t
  rest_whole e r k well all = leaves_whole e r a f n t k is_put well (subst (λ x. length x ≤ n.put) same all)

  pub rest_failed : n.failed ≡ true → Leaves end.SinkFailed a f n.told n.faults t
  rest_failed e = leaves_failed a f n t is_put e

  pub rest_front : Leaves end.NoMemory a f n.told n.faults t
  rest_front = leaves_front a f n t is_put

pub ends_by : {A : Type 0} (e : SessionEnd) (r : Result A Signal) → IsEndOf e r → EndsBy e r
ends_by end.Idle r k = k
ends_by (end.Stop code) r k = k
ends_by (end.Wants address) r k = k
ends_by end.Budget r k = k
ends_by end.Depth r k = k
ends_by end.SinkFailed r k = tt
ends_by end.NoMemory r k = tt

pub has_memory : (b : Bool) (why : Signal) → b ≡ false → Lacks b why → HasMemory {A = Unit {0}} (Err why)
has_memory true why e h = cc
has_memory false why e h = h
