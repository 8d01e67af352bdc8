-- A run of a source program stays in the run: its steps do, since they are built of such pieces; calls by induction on the clock.
use Rattle.std.specs.Prelude.{ℕ, zero, suc, List, [], ◌∷◌, Option, Some, None}
use Rattle.std.proofs.Common.{◌≡◌, refl, sym, ◌∙◌}
use Rattle.vg_meaning.specs.History.{Recorder}
use Rattle.vg_meaning.specs.Answer.{End, Gives, Piece, go_on}
use Rattle.vg_meaning.specs.Calls.{returned}
use Rattle.vg_source.specs.Values.{Value, Null, Heap}
use Rattle.vg_source.specs.Steps.{Step, Target, Routine, Source}
use Rattle.vg_source.specs.State.{State, find_called, handler_of, entered, left}
use Rattle.vg_source.specs.Meaning.{Caller, put, take_from, with_found, step, truth, meaning}
use Rattle.vg_source.specs.Session.{activity, back_in, run_routine, called, call_alone, handled, handle, with_heap, running_world, running}
use Rattle.vg_source_laws.proofs.Steps.{IsOwn, by_stop, by_wrong, on_step}
use Rattle.vg_endings.specs.InRun.{InRun, IsEnd, StaysInRun, StaysPiece, EndsRun}
use Rattle.vg_endings.proofs.Staying.{stays_then, stays_opened, stays_returned, stays_read, stays_write, behind, ends_idles, stays_performed}

no_limit : (most : ℕ) (limit : Option ℕ) → limit ≡ Some most → limit ≡ None → ⊥
no_limit most limit e h = let clash : Some most ≡ None = sym e ∙ h in cc

own : (d : Option ℕ) (why : End) → IsOwn why → IsEnd d why
own d why by_stop = tt
own d why by_wrong = tt

module _ {H : Type 0} (d : Option ℕ) (ints : List ℕ) where
  abbrev StaysCaller : Caller H → Type 0
  StaysCaller call = (t : Target) (count : ℕ) (self : Value) → StaysPiece d ints (call t count self)

  stays_step : (p : Source) (call : Caller H) → StaysCaller call → (q : Step) → StaysPiece d ints (step p call q)
  stays_step p call k q s w h =
      on_step (λ w. InRun d ints w) (λ c. c) (λ h. h) (λ w a b. StaysInRun d ints a)
      (λ s1 w1 h1. h1)
      (λ why e s1 w1 h1. (h1, own d why e))
      (λ most s1 w1 e h1. absurd (no_limit most w1.largest e h1.largest_is))
      (λ w1 a b f go h1 e l more. stays_then d ints a f e l)
      (λ address f go l s1 w1 h1. stays_read d ints address f (λ v. l v) s1 w1 h1)
      (λ address value s1 w1 h1. stays_write d ints address value s1 w1 h1)
      p call call (λ t count self s1 w1 h1. k t count self s1 w1 h1) q s w h

  stays_found : {B : Type 0} (o : Option B) (go : B → Piece State H) → ((b : B) → StaysPiece d ints (go b)) → StaysPiece d ints (with_found o go)
  stays_found (Some b) go k s w h = k b s w h
  stays_found None go k s w h = (h, tt)

  stays_put : (v : Value) → StaysPiece {H = H} d ints (put v)
  stays_put v s w h = h

  stays_back_from : (count : ℕ) (s0 : State) (vs : List Value) → StaysPiece {H = H} d ints (take_from vs (λ v body. Gives (left count s0 v body)))
  stays_back_from count s0 [] s w h = (h, tt)
  stays_back_from count s0 (v ∷ vs) s w h = h

  stays_back : (count : ℕ) (s0 : State) → StaysPiece {H = H} d ints (back_in count s0)
  stays_back count s0 s w h = stays_back_from count s0 s.values s w h

  stays_routine : (r : Recorder H) (p : Source) (call : Caller H) → StaysCaller call → (routine : Routine) (count : ℕ) (self : Value)
      → StaysPiece d ints (run_routine r p call routine count self)
  stays_routine r p call k routine count self s w h =
      stays_then d ints (returned (meaning r p call routine.body (entered routine count self s) w) (put routine.missing)) (back_in count s)
      (stays_returned d ints (meaning r p call routine.body (entered routine count self s) w) (put routine.missing)
      (stays_performed d ints r truth (step p call) (stays_step p call k) routine.body (entered routine count self s) w h) (stays_put routine.missing))
      (stays_back count s)

  stays_called : (r : Recorder H) (p : Source) (n : ℕ) → StaysCaller (called r p n)
  stays_called r p zero t count self s w h = (h, tt)
  stays_called r p (suc n) t count self s w h =
      stays_found (find_called p.routines t count) _
      (λ routine. stays_opened d ints r (activity t routine.number) _ (stays_routine r p (called r p n) (stays_called r p n) routine count self)) s w h

  stays_take : (vs : List Value) → StaysPiece {S = State} {H = H} d ints (take_from vs (λ v. go_on))
  stays_take [] s w h = (h, tt)
  stays_take (v ∷ vs) s w h = h

  stays_alone : (r : Recorder H) (p : Source) (t : Target) → StaysPiece d ints (call_alone r p t)
  stays_alone r p t s w h =
      stays_then d ints (called r p w.clock t 0 Null s w) _ (stays_called r p w.clock t 0 Null s w h) (λ s1 w1 h1. stays_take s1.values s1 w1 h1)

  stays_handled : (r : Recorder H) (p : Source) (o : Option Target) → StaysPiece d ints (handled r p o)
  stays_handled r p (Some t) s w h = stays_alone r p t s w h
  stays_handled r p None s w h = h

pub ends_running : {H : Type 0} (r : Recorder H) (history : H) (p : Source) (heap : Heap) (d : Option ℕ) (reads ints : List ℕ) (clock : ℕ)
    → EndsRun d (running r history p heap d reads ints clock)
ends_running {H} r history p heap d reads ints clock =
    behind d ints (call_alone r p p.main (with_heap heap) (running_world history d reads ints clock)) _
    (stays_alone d ints r p p.main (with_heap heap) (running_world history d reads ints clock)
    (record { phase = refl; deepest_is = refl; largest_is = refl; interrupts_are = refl }))
    (ends_idles d (handle r p) (λ vector vs s w h. stays_handled d vs r p (handler_of p.handlers vector) s w h) ints)
