-- With more clock a program does the same, and goes on where it was out of clock.
use Rattle.std.specs.Prelude.{ℕ, zero, suc, ◌+◌, ◌≤◌, List, [], ◌∷◌, length, Option, Some, None}
use Rattle.std.proofs.Common.{◌≡◌, ◌≢◌, ◌-◌, ◌<◌, ◌⊎◌, inl, inr, refl, sym, ap, subst, ◌∙◌, arith}
use Rattle.std.proofs.lemmas.Bool.{cases_lt}
use Rattle.vg_meaning.specs.Ending.{Beyond}
use Rattle.vg_meaning.specs.History.{Recorder, History, no_history, full}
use Rattle.vg_meaning.specs.Answer.{Breaks, Continues, Returns, Over, Answer, Gives, Ends, Piece, go_on, passes, OutOfRoom}
use Rattle.vg_meaning.specs.Interrupts.{idles}
use Rattle.vg_meaning_laws.specs.Grows.{Extends}
use Rattle.vg_meaning_laws.specs.Longer.{longer, Longer, gives, ends, out, LongerPiece}
use Rattle.vg_meaning_laws.proofs.Grows.{extends_itself, grows_idles}
use Rattle.vg_meaning_laws.proofs.Longer.{longer_then, longer_returned, longer_opened, longer_unless, longer_read, longer_write, longer_idles, longer_performed}
use Rattle.vg_source.specs.Names.{Name}
use Rattle.vg_source.specs.Values.{Value, Null, Heap, stored_values}
use Rattle.vg_source.specs.Steps.{Step, Target, Start, Routine, Source}
use Rattle.vg_source.specs.State.{State, find_called, handler_of, entered, left}
use Rattle.vg_source.specs.Meaning.{Caller, put, take_from, taking, with_found, step, truth}
use Rattle.vg_source.specs.Session.{activity, back_in, run_routine, called, call_alone, first_heap, start_all, with_heap, starting_world, starting}
use Rattle.vg_source.specs.Session.{Initialised, Started, Failed, start_of, started, handled, handle, running_world, running, session_of, session}
use Rattle.vg_source_laws.proofs.Steps.{grows_put, grows_taking, on_step}
use Rattle.vg_source_laws.proofs.Traces.{GrowingCaller, grows_step, grows_back, grows_routine, grows_called, grows_start, grows_handle}

module _ {H : Type 0} (d : ℕ) where
  -- all calls of the second caller do with d ticks more what those of the first do
  abbrev pub LongerCaller : Caller H → Caller H → Type 0
  LongerCaller call call' = (t : Target) (count : ℕ) (self : Value) → LongerPiece d (call t count self) (call' t count self)

  pub longer_step : (p : Source) (call call' : Caller H) → LongerCaller call call' → (q : Step) → LongerPiece d (step p call q) (step p call' q)
  longer_step p call call' k q s w =
      on_step (λ w. Unit {0}) (λ c. c + d) (λ h. h) (λ w a b. Longer d a b)
      (λ s w h. gives)
      (λ why e s w h. ends)
      (λ most s w e h. ends)
      (λ w a b f go h e k more. longer_then d a b f go e (λ s1 w1. k s1 w1 tt) more)
      (λ address f go h s w u. longer_read d address f go (λ v s1 w1. h v s1 w1 tt) s w)
      (λ address value s w h. longer_write d address value s w)
      p call call' (λ t count self s w h. k t count self s w) q s w tt

  longer_found : {B : Type 0} (o : Option B) (f g : B → Piece State H) → ((b : B) → LongerPiece d (f b) (g b)) → LongerPiece d (with_found o f) (with_found o g)
  longer_found (Some b) f g k s w = k b s w
  longer_found None f g k s w = ends

  longer_put : (v : Value) → LongerPiece {H = H} d (put v) (put v)
  longer_put v s w = gives

  longer_back : (count : ℕ) (s0 : State) (vs : List Value)
      → LongerPiece {H = H} d (take_from vs (λ v body. Gives (left count s0 v body))) (take_from vs (λ v body. Gives (left count s0 v body)))
  longer_back count s0 [] s w = ends
  longer_back count s0 (v ∷ vs) s w = gives

  longer_routine : (r : Recorder H) (p : Source) (call call' : Caller H) → LongerCaller call call' → GrowingCaller call'
      → (routine : Routine) (count : ℕ) (self : Value)
      → LongerPiece d (run_routine r p call routine count self) (run_routine r p call' routine count self)
  longer_routine r p call call' k g routine count self s w =
      longer_then d _ _ (back_in count s) (back_in count s)
      (longer_returned d _ _ (put routine.missing) (put routine.missing)
      (longer_performed d r truth (step p call) (step p call') (longer_step p call call' k) (grows_step p call' g) routine.body (entered routine count self s)
      w)
      (longer_put routine.missing) (grows_put routine.missing))
      (λ s1. longer_back count s s1.values s1) (grows_back count s)

  pub longer_called : (r : Recorder H) (p : Source) (n m : ℕ) → n ≤ m → LongerCaller (called r p n) (called r p m)
  longer_called r p zero zero le t count self s w = ends
  longer_called r p zero (suc m) le t count self s w = out (grows_called r p (suc m) t count self s (longer d w))
  longer_called r p (suc n) zero le t count self s w = absurd (omega arith)
  longer_called r p (suc n) (suc m) le t count self s w =
      longer_found (find_called p.routines t count) _ _ (λ routine. longer_opened d r (activity t routine.number)
      (run_routine r p (called r p n) routine count self) (run_routine r p (called r p m) routine count self)
      (longer_routine r p (called r p n) (called r p m) (longer_called r p n m (omega arith)) (grows_called r p m) routine count self)
      (grows_routine r p (called r p m) (grows_called r p m) routine count self)) s w

  longer_take_from : (vs : List Value) → LongerPiece {H = H} d (take_from vs (λ v. go_on)) (take_from vs (λ v. go_on))
  longer_take_from [] s w = ends
  longer_take_from (v ∷ vs) s w = gives

  longer_forget : LongerPiece {H = H} d (taking (λ v. go_on)) (taking (λ v. go_on))
  longer_forget s w = longer_take_from s.values s w

  longer_alone : (r : Recorder H) (p : Source) (t : Target) → LongerPiece d (call_alone r p t) (call_alone r p t)
  longer_alone r p t s w =
      longer_then d _ _ (taking (λ v. go_on)) (taking (λ v. go_on)) (longer_called r p w.clock (w.clock + d) (omega arith) t 0 Null s w)
      longer_forget (grows_taking go_on (λ s1 w1. extends_itself w1.outside.trace))

  longer_start : (r : Recorder H) (p : Source) (cs : List Name) → LongerPiece d (start_all r p cs) (start_all r p cs)
  longer_start r p [] s w = gives
  longer_start r p (c ∷ cs) s w =
      longer_then d _ _ (start_all r p cs) (start_all r p cs) (longer_alone r p (Start c) s w) (longer_start r p cs) (grows_start r p cs)

  longer_handled : (r : Recorder H) (p : Source) (o : Option Target) → LongerPiece d (handled r p o) (handled r p o)
  longer_handled r p (Some t) s w = longer_alone r p t s w
  longer_handled r p None s w = gives

  longer_handle : (r : Recorder H) (p : Source) (vector : ℕ) → LongerPiece d (handle r p vector) (handle r p vector)
  longer_handle r p vector s w = longer_handled r p (handler_of p.handlers vector) s w

  pub longer_starting : (r : Recorder H) (history : H) (p : Source) (clock : ℕ) → Longer d (starting r history p clock) (starting r history p (clock + d))
  longer_starting r history p clock =
      longer_unless d (passes (Some 60000) (stored_values (first_heap p))) OutOfRoom (start_all r p p.components) (start_all r p p.components)
      (longer_start r p p.components) (with_heap (first_heap p)) (starting_world history clock)

  pub longer_running : (r : Recorder H) (history : H) (p : Source) (heap : Heap) (deepest : Option ℕ) (reads interrupts : List ℕ) (clock : ℕ)
      → Longer d (running r history p heap deepest reads interrupts clock) (running r history p heap deepest reads interrupts (clock + d))
  longer_running r history p heap deepest reads interrupts clock =
      longer_then d _ _ (idles (length interrupts) (handle r p)) (idles (length interrupts) (handle r p))
      (longer_alone r p p.main (with_heap heap) (running_world history deepest reads interrupts clock))
      (longer_idles d (length interrupts) (handle r p) (handle r p) (longer_handle r p) (grows_handle r p))
      (grows_idles (length interrupts) (handle r p) (grows_handle r p))

-- ---- sessions

trace_extends : (d : ℕ) (a b : Answer State History) → Longer d a b → Extends (session_of a).trace (session_of b).trace
trace_extends d _ _ (gives {w = w}) = extends_itself w.outside.trace
trace_extends d _ _ (ends {w = w}) = extends_itself w.outside.trace
trace_extends d _ (Gives s w) (out e) = e
trace_extends d _ (Ends why s w) (out e) = e

same_unless_beyond : (d : ℕ) (a b : Answer State History) → Longer d a b → (session_of a).ending ≢ Some Beyond → session_of b ≡ session_of a
same_unless_beyond d _ _ gives h = refl
same_unless_beyond d _ _ ends h = refl
same_unless_beyond d _ b (out e) h = absurd (h refl)

pub longer_session_trace : (p : Source) (heap : Heap) (deepest : Option ℕ) (reads interrupts : List ℕ) (clock d : ℕ)
    → Extends (session p heap deepest reads interrupts clock).trace (session p heap deepest reads interrupts (clock + d)).trace
longer_session_trace p heap deepest reads interrupts clock d = trace_extends d _ _ (longer_running d full no_history p heap deepest reads interrupts clock)

pub longer_session : (p : Source) (heap : Heap) (deepest : Option ℕ) (reads interrupts : List ℕ) (clock d : ℕ)
    → (session p heap deepest reads interrupts clock).ending ≢ Some Beyond
    → session p heap deepest reads interrupts (clock + d) ≡ session p heap deepest reads interrupts clock
longer_session p heap deepest reads interrupts clock d = same_unless_beyond d _ _ (longer_running d full no_history p heap deepest reads interrupts clock)

-- ---- initialisation

start_longer : (d : ℕ) (a b : Answer State History) → Longer d a b → (h : Heap) → start_of a ≡ Started h → start_of b ≡ Started h
start_longer d _ _ gives h e = e
start_longer d _ _ (ends {why = Breaks}) h e = e
start_longer d _ _ (ends {why = Continues}) h e = e
start_longer d _ _ (ends {why = Returns}) h e = e
start_longer d _ _ (ends {why = Over why}) h e = e
start_longer d _ b (out x) h e = absurd (cc e)

pub longer_started : (p : Source) (clock d : ℕ) (h : Heap) → started p clock ≡ Started h → started p (clock + d) ≡ Started h
longer_started p clock d = start_longer d _ _ (longer_starting d full no_history p clock)

abbrev heap_or : Heap → Initialised → Heap
heap_or k (Started h) = h
heap_or k (Failed why) = k

plus_sub : (c d : ℕ) → c ≤ d → c + (d - c) ≡ d
plus_sub c d le = omega (arith, le)

-- two clocks that both give a heap give the same one, since the larger is the smaller and some more
pub one_heap : (p : Source) (c d : ℕ) (h k : Heap) → started p c ≡ Started h → started p d ≡ Started k → h ≡ k
one_heap p c d h k e f = by (cases_lt c d)
  where
    by : (c < d) ⊎ (d ≤ c) → h ≡ k
    by (inl le) = ap (heap_or h) (sym (subst (λ n. started p n ≡ Started h) (plus_sub c d (omega (arith, le))) (longer_started p c (d - c) h e)) ∙ f)
    by (inr le) = sym (ap (heap_or h) (sym (subst (λ n. started p n ≡ Started k) (plus_sub d c le) (longer_started p d (c - d) k f)) ∙ e))
