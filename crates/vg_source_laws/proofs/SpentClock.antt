-- The clock of a session never rises, and a session that is out of clock has spent it all.
use Rattle.std.specs.Prelude.{ℕ, zero, suc, ◌≤◌, List, [], ◌∷◌, length, Option, Some, None}
use Rattle.std.proofs.Common.{refl, arith}
use Rattle.vg_meaning.specs.History.{Recorder}
use Rattle.vg_meaning.specs.Answer.{OutOfRoom, Wrong, Over, Gives, Piece, go_on, passes}
use Rattle.vg_meaning.specs.Interrupts.{idles}
use Rattle.vg_meaning_laws.specs.Spent.{Spent, gives, ends, Spends}
use Rattle.vg_meaning_laws.proofs.Spent.{other, spent_then, spent_over, spent_unless, spent_returned, spent_opened, spent_read, spent_write, spent_idles}
use Rattle.vg_meaning_laws.proofs.Spent.{spent_performed}
use Rattle.vg_source.specs.Names.{Name}
use Rattle.vg_source.specs.Values.{Value, Null, Heap, stored_values}
use Rattle.vg_source.specs.Steps.{Step, Target, Start, Routine, Source}
use Rattle.vg_source.specs.State.{State, find_called, handler_of, entered, left}
use Rattle.vg_source.specs.Meaning.{Caller, put, take_from, taking, with_found, step, truth, meaning}
use Rattle.vg_source.specs.Session.{activity, back_in, run_routine, called, call_alone, first_heap, start_all, with_heap, starting_world, starting, handled}
use Rattle.vg_source.specs.Session.{handle, running_world, running}
use Rattle.vg_source_laws.proofs.Steps.{own_is_no_clock, on_step}

module _ {H : Type 0} where
  -- all calls that begin with at most n ticks spend right
  abbrev SpendingCaller : ℕ → Caller H → Type 0
  SpendingCaller n call = (t : Target) (count : ℕ) (self : Value) → Spends n (call t count self)

  spent_step : (n : ℕ) (p : Source) (call : Caller H) → SpendingCaller n call → (a : Step) → Spends n (step p call a)
  spent_step n p call k a s w le =
      on_step (λ w1. w1.clock ≤ n) (λ c. c) (λ h. h) (λ w1 x y. Spent w1.clock y)
      (λ s1 w1 h. gives (omega arith))
      (λ why e s1 w1 h. ends (omega arith) (other (Over why) _ (own_is_no_clock why e)))
      (λ most s1 w1 e h. ends (omega arith) (other (Over OutOfRoom) _ refl))
      (λ w1 x y go go' h e l more. spent_then n w1.clock y go' h e l)
      (λ address go go' h s1 w1 u. spent_read n address go' h s1 w1 u)
      (λ address value s1 w1 h. spent_write n address value s1 w1 h)
      p call call k a s w le

  spent_found : {B : Type 0} (n : ℕ) (o : Option B) (go : B → Piece State H) → ((b : B) → Spends n (go b)) → Spends n (with_found o go)
  spent_found n (Some b) go k s w le = k b s w le
  spent_found n None go k s w le = spent_over n Wrong refl s w le

  spent_back : (n count : ℕ) (s0 : State) (vs : List Value) → Spends {H = H} n (take_from vs (λ v body. Gives (left count s0 v body)))
  spent_back n count s0 [] s w le = spent_over n Wrong refl s w le
  spent_back n count s0 (v ∷ vs) s w le = gives (omega arith)

  spent_routine : (r : Recorder H) (n : ℕ) (p : Source) (call : Caller H) → SpendingCaller n call → (routine : Routine) (count : ℕ) (self : Value)
      → Spends n (run_routine r p call routine count self)
  spent_routine r n p call k routine count self s w le =
      spent_then n w.clock _ (back_in count s) le
      (spent_returned n w.clock (meaning r p call routine.body (entered routine count self s) w) (put routine.missing) le
      (spent_performed r n truth (step p call) (spent_step n p call k) routine.body (entered routine count self s) w le) (λ s1 w1 h1. gives (omega arith)))
      (λ s1. spent_back n count s s1.values s1)

  spent_called : (r : Recorder H) (p : Source) (n : ℕ) → SpendingCaller n (called r p n)
  spent_called r p zero t count self s w le = ends (omega arith) (λ e. omega (arith, le))
  spent_called r p (suc n) t count self s w le =
      spent_found (suc n) (find_called p.routines t count) _
      (λ routine. spent_opened r (activity t routine.number) n _ (spent_routine r n p (called r p n) (spent_called r p n) routine count self)) s w le

  spent_take_from : (vs : List Value) (n : ℕ) → Spends {H = H} n (take_from vs (λ v. go_on))
  spent_take_from [] n s w le = spent_over n Wrong refl s w le
  spent_take_from (v ∷ vs) n s w le = gives (omega arith)

  spent_alone : (r : Recorder H) (n : ℕ) (p : Source) (t : Target) → Spends n (call_alone r p t)
  spent_alone r n p t s w le =
      spent_then n w.clock _ (taking (λ v. go_on)) le (spent_called r p w.clock t 0 Null s w (omega arith)) (λ s1 w1 h1. spent_take_from s1.values n s1 w1 h1)

  spent_start : (r : Recorder H) (n : ℕ) (p : Source) (cs : List Name) → Spends n (start_all r p cs)
  spent_start r n p [] s w le = gives (omega arith)
  spent_start r n p (c ∷ cs) s w le = spent_then n w.clock _ (start_all r p cs) le (spent_alone r n p (Start c) s w le) (spent_start r n p cs)

  spent_handled : (r : Recorder H) (n : ℕ) (p : Source) (o : Option Target) → Spends n (handled r p o)
  spent_handled r n p (Some t) s w le = spent_alone r n p t s w le
  spent_handled r n p None s w le = gives (omega arith)

  pub spent_starting : (r : Recorder H) (history : H) (p : Source) (clock : ℕ) → Spent clock (starting r history p clock)
  spent_starting r history p clock =
      spent_unless clock (passes (Some 60000) (stored_values (first_heap p))) OutOfRoom (start_all r p p.components) refl
      (spent_start r clock p p.components) (with_heap (first_heap p)) (starting_world history clock) (omega arith)

  pub spent_running : (r : Recorder H) (history : H) (p : Source) (heap : Heap) (deepest : Option ℕ) (reads interrupts : List ℕ) (clock : ℕ)
      → Spent clock (running r history p heap deepest reads interrupts clock)
  spent_running r history p heap deepest reads interrupts clock =
      spent_then clock clock _ (idles (length interrupts) (handle r p)) (omega arith)
      (spent_alone r clock p p.main (with_heap heap) (running_world history deepest reads interrupts clock) (omega arith))
      (spent_idles clock (length interrupts) (handle r p) (λ vector. spent_handled r clock p (handler_of p.handlers vector)))
