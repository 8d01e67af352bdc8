-- The trace of a session only grows.
use Rattle.std.specs.Prelude.{ℕ, zero, suc, List, [], ◌∷◌, Option, Some, None}
use Rattle.vg_meaning.specs.History.{Recorder}
use Rattle.vg_meaning.specs.Answer.{Gives, Piece, go_on}
use Rattle.vg_meaning.specs.Calls.{returned}
use Rattle.vg_meaning_laws.specs.Grows.{trace_of, Extends, Grows}
use Rattle.vg_meaning_laws.proofs.Grows.{extends_itself, grows_then, grows_returned, grows_read, grows_write, grows_opened, grows_performed}
use Rattle.vg_source.specs.Names.{Name}
use Rattle.vg_source.specs.Values.{Value, Null}
use Rattle.vg_source.specs.Steps.{Step, Target, Start, Routine, Source}
use Rattle.vg_source.specs.State.{State, find_called, handler_of, entered, left}
use Rattle.vg_source.specs.Meaning.{Caller, put, take_from, with_found, forgetting, step, truth, meaning}
use Rattle.vg_source.specs.Session.{activity, back_in, run_routine, called, call_alone, start_all, handled, handle}
use Rattle.vg_source_laws.proofs.Steps.{grows_put, grows_taking, on_step}

-- all calls of a caller only add to the trace
abbrev pub GrowingCaller : {H : Type 0} → Caller H → Type 0
GrowingCaller call = (t : Target) (count : ℕ) (self : Value) → Grows (call t count self)

module _ {H : Type 0} where
  pub grows_step : (p : Source) (call : Caller H) → GrowingCaller call → (q : Step) → Grows (step p call q)
  grows_step p call k q s w =
      on_step (λ w. Unit {0}) (λ c. c) (λ h. h) (λ w a b. Extends w.outside.trace (trace_of b))
      (λ s w h. extends_itself w.outside.trace)
      (λ why e s w h. extends_itself w.outside.trace)
      (λ most s w e h. extends_itself w.outside.trace)
      (λ w a b f go h e k more. grows_then w.outside.trace b go e more)
      (λ address f go h s w u. grows_read address go (λ v s1 w1. h v s1 w1 tt) s w)
      (λ address value s w h. grows_write address value s w)
      p call call (λ t count self s w h. k t count self s w) q s w tt

  grows_found : {B : Type 0} (o : Option B) (go : B → Piece State H) → ((b : B) → Grows (go b)) → Grows (with_found o go)
  grows_found (Some b) go k s w = k b s w
  grows_found None go k s w = extends_itself w.outside.trace

  pub grows_back_from : (count : ℕ) (s0 : State) (vs : List Value) → Grows {H = H} (take_from vs (λ v body. Gives (left count s0 v body)))
  grows_back_from count s0 [] s w = extends_itself w.outside.trace
  grows_back_from count s0 (v ∷ vs) s w = extends_itself w.outside.trace

  pub grows_back : (count : ℕ) (s0 : State) → Grows {H = H} (back_in count s0)
  grows_back count s0 s w = grows_back_from count s0 s.values s w

  pub grows_routine : (r : Recorder H) (p : Source) (call : Caller H) → GrowingCaller call → (routine : Routine) (count : ℕ) (self : Value)
      → Grows (run_routine r p call routine count self)
  grows_routine r p call k routine count self s w =
      grows_then w.outside.trace (returned (meaning r p call routine.body (entered routine count self s) w) (put routine.missing)) (back_in count s)
      (grows_returned w.outside.trace (meaning r p call routine.body (entered routine count self s) w) (put routine.missing)
      (grows_performed r truth (step p call) (grows_step p call k) routine.body (entered routine count self s) w) (grows_put routine.missing))
      (grows_back count s)

  pub grows_called : (r : Recorder H) (p : Source) (n : ℕ) → GrowingCaller (called r p n)
  grows_called r p zero t count self s w = extends_itself w.outside.trace
  grows_called r p (suc n) t count self s w =
      grows_found (find_called p.routines t count) _
      (λ routine. grows_opened r (activity t routine.number) _ (grows_routine r p (called r p n) (grows_called r p n) routine count self)) s w

  pub grows_forget : Grows {S = State} {H = H} (λ s w. forgetting go_on s w)
  grows_forget s w = grows_taking go_on (λ s1 w1. extends_itself w1.outside.trace) s w

  pub grows_alone : (r : Recorder H) (p : Source) (t : Target) → Grows (call_alone r p t)
  grows_alone r p t s w =
      grows_then w.outside.trace (called r p w.clock t 0 Null s w) _ (grows_called r p w.clock t 0 Null s w)
      (grows_taking go_on (λ s1 w1. extends_itself w1.outside.trace))

  pub grows_start : (r : Recorder H) (p : Source) (cs : List Name) → Grows (start_all r p cs)
  grows_start r p [] s w = extends_itself w.outside.trace
  grows_start r p (c ∷ cs) s w =
      grows_then w.outside.trace (call_alone r p (Start c) s w) (start_all r p cs) (grows_alone r p (Start c) s w) (grows_start r p cs)

  grows_handled : (r : Recorder H) (p : Source) (o : Option Target) → Grows (handled r p o)
  grows_handled r p (Some t) s w = grows_alone r p t s w
  grows_handled r p None s w = extends_itself w.outside.trace

  pub grows_handle : (r : Recorder H) (p : Source) (vector : ℕ) → Grows (handle r p vector)
  grows_handle r p vector s w = grows_handled r p (handler_of p.handlers vector) s w
