-- Each opening comes with a tick: an instance of the law of what holds of all answers, with a predicate on the history.
use Rattle.std.specs.Prelude.{ℕ, zero, suc, true, List, Option, Some, None, slice_get}
use Rattle.std.proofs.Common.{◌≡◌, inl, inr, subst}
use Rattle.vg_meaning.specs.History.{Active, Calling, History, full}
use Rattle.vg_meaning.specs.World.{World}
use Rattle.vg_meaning.specs.Answer.{End, OutOfClock, Signal, Ends, Piece, over}
use Rattle.vg_meaning.specs.Shapes.{shapeless}
use Rattle.vg_meaning.specs.Interrupts.{idles}
use Rattle.vg_meaning.specs.Safe.{Safe, leaves, overs, NoWay, Ticks}
use Rattle.vg_meaning_laws.proofs.Same.{fits_shapeless}
use Rattle.vg_meaning_laws.proofs.Safe.{safe_then, safe_idles, safe_opened, safe_returned, safe_performed}
use Rattle.vg_codes.specs.Codes.{Codes}
use Rattle.vg_firm.specs.declared.step.Step.{Step}
use Rattle.vg_firm.specs.Program.{Procedure, Program}
use Rattle.vg_firm.specs.Meaning.{State, Caller, put, checked, step, truth}
use Rattle.vg_firm.specs.Session.{entered, back_in, is_among, guarded, run_procedure, may_enter, handled, entering, called, running}
use Rattle.vg_firm_held.proofs.Pieces as held
use Rattle.vg_ticked_calls.specs.Ticked.{AreTicked}

same : (h : History) → AreTicked h → AreTicked h
same h x = x

abbrev Inside : State → History → Type 0
Inside = held.Held AreTicked AreTicked same

abbrev AtEnd : End → History → Type 0
AtEnd = held.Ended AreTicked AreTicked same

abbrev On : Piece State History → Type 0
On p = held.On AreTicked AreTicked same p

-- ---- histories

ends : (s : State) (h : History) → Inside s h → AreTicked h
ends s h x = x

opens : (a : Active) (h : History) → AreTicked h → AreTicked (full.tick (full.open_call a h))
opens a h x calls (inl e) = inl e
opens a h x calls (inr y) = inr (x calls y)

ticks : Ticks full Inside AtEnd
ticks = record { stays = λ s h x calls y. inr (x calls y); spent = ends }

-- ---- calls and runs

module _ (k : Codes) (f : Program) where
  on_handled : (call : Caller History) → ((q count : ℕ) (self : Option ℕ) → On (call q count self)) → (o : Option ℕ) → On (handled call o)
  on_handled call calls o = held.on_handled AreTicked AreTicked same call o (λ q e. calls q 0 None)

  on_guarded : (names : List ℕ) (call : Caller History) → ((q count : ℕ) (self : Option ℕ) → On (call q count self)) → (q count : ℕ) (self : Option ℕ)
      → On (guarded names call q count self)
  on_guarded names call calls q count self = held.on_checked AreTicked AreTicked same (is_among names q) (call q count self) (calls q count self)

  on_procedure : (call : Caller History) → ((q count : ℕ) (self : Option ℕ) → On (call q count self)) → (m : Procedure) (count : ℕ) (self : Option ℕ)
      → On (run_procedure full k f call (λ vector. handled call (f.handler vector)) m count self)
  on_procedure call calls m count self s w x =
      safe_then _
      (safe_returned Inside Inside _ NoWay AtEnd _ (put 0)
      (safe_performed full (step k f m (guarded m.calls call) (λ vector. handled call (f.handler vector))) truth shapeless (λ z. Inside) Inside AtEnd ticks
      (λ p y z h. held.on_step AreTicked AreTicked same (λ q. Unit {0}) k f m (guarded m.calls call) (λ vector. handled call (f.handler vector))
      (on_guarded m.calls call calls) (λ ok v. on_handled call calls (f.handler v)) p tt)
      (λ y z h. held.on_truth AreTicked AreTicked same) (λ y h s1 h1 q. q) true m.body tt tt (fits_shapeless m.body) (entered m count self s) w x)
      (held.on_put AreTicked AreTicked same 0) (λ s1 h1 q. q) (λ s1 h1 q. q.1) (λ s1 h1 q. q.1) (λ why s1 h1 q. absurd q))
      (held.on_taking AreTicked AreTicked same _
      (held.on_width AreTicked AreTicked same m.result (back_in count s) (held.on_back AreTicked AreTicked same count s)))

  on_entering : (q count : ℕ) (self : Option ℕ) (go : Procedure → Piece State History) → ((m : Procedure) → On (go m)) → On (entering f q count self go)
  on_entering q count self go h s w x =
      held.on_found AreTicked AreTicked same (slice_get f.procedures q) (λ m. checked (may_enter m count self s) (go m))
      (λ m. held.on_checked AreTicked AreTicked same (may_enter m count self s) (go m) (h m)) s w x

  on_called : (n q count : ℕ) (self : Option ℕ) → On (called full k f n q count self)
  on_called zero q count self = on_entering q count self (λ m. over OutOfClock) (λ m s w x. overs x)
  on_called (suc n) q count self =
      on_entering q count self _
      (λ m. safe_opened Inside Inside Inside Inside NoWay AtEnd full (Calling m.method) _ (λ s h x. opens (Calling m.method) h x) ends ends
      (λ s h x. x) (on_procedure (called full k f n) (on_called n) m count self))

  on_running : (n : ℕ) → On (running full k f n)
  on_running n s w x =
      safe_then (idles n (λ vector s1 w1. handled (called full k f w1.clock) (f.handler vector) s1 w1))
      (on_handled (called full k f w.clock) (on_called w.clock) (Some f.main) s w x)
      (safe_idles Inside NoWay AtEnd n (λ vector s1 w1. handled (called full k f w1.clock) (f.handler vector) s1 w1) ends
      (λ vector s1 w1 y. on_handled (called full k f w1.clock) (on_called w1.clock) (f.handler vector) s1 w1 y))

ended : (why : Signal) (t : State) (v : World History) → Safe Inside NoWay AtEnd (Ends why t v) → AreTicked v.history
ended why t v (leaves x) = absurd x
ended _ t v (overs x) = x

pub openings_tick : (k : Codes) (f : Program) (n : ℕ) (s t : State) (w v : World History) (why : Signal) → AreTicked w.history
    → running full k f n s w ≡ Ends why t v → AreTicked v.history
openings_tick k f n s t w v why x e = ended why t v (subst (λ z. Safe Inside NoWay AtEnd z) e (on_running k f n s w x))
