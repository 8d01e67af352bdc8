-- A program that is run with less history does what it does with more.
use Rattle.std.specs.Prelude.{ℕ, zero, suc, List, [], ◌∷◌, length, Option, Some, None}
use Rattle.vg_meaning.specs.History.{Recorder}
use Rattle.vg_meaning.specs.Answer.{OutOfRoom, Gives, Piece, go_on}
use Rattle.vg_meaning.specs.Interrupts.{idles}
use Rattle.vg_meaning_laws.specs.Told.{Told, gives, ends, ToldPiece, Tells}
use Rattle.vg_meaning_laws.proofs.Told.{told_then, told_unless, told_returned, told_opened, told_read, told_write, told_idles, told_performed}
use Rattle.std.proofs.Common.{refl}
use Rattle.vg_source.specs.Names.{Name}
use Rattle.vg_source.specs.Values.{Value, Null, Heap}
use Rattle.vg_source.specs.Steps.{Step, Target, Start, Routine, Source}
use Rattle.vg_source.specs.State.{State, find_called, handler_of, entered, left}
use Rattle.vg_source.specs.Meaning.{Caller, put, take_from, taking, with_found, step, truth}
use Rattle.vg_source.specs.Session.{activity, back_in, run_routine, called, call_alone, first_heap, start_all, with_heap, starting_world, starting, handled}
use Rattle.vg_source.specs.Session.{handle, running_world, running}
use Rattle.vg_source_laws.proofs.Steps.{on_step}

module _ {H K : Type 0} (f : H → K) (r : Recorder H) (q : Recorder K) (tells : Tells f r q) where
  -- all calls of the second caller do with less history what those of the first do
  abbrev ToldCaller : Caller H → Caller K → Type 0
  ToldCaller call call' = (t : Target) (count : ℕ) (self : Value) → ToldPiece f (call t count self) (call' t count self)

  told_step : (p : Source) (call : Caller H) (call' : Caller K) → ToldCaller call call' → (a : Step) → ToldPiece f (step p call a) (step p call' a)
  told_step p call call' k a s w =
      on_step (λ w1. Unit {0}) (λ c. c) f (λ w1 x y. Told f x y)
      (λ s1 w1 h. gives)
      (λ why e s1 w1 h. ends)
      (λ most s1 w1 e h. ends)
      (λ w1 x y go go' h e l more. told_then f x y go go' e (λ s2 w2. l s2 w2 tt))
      (λ address go go' h s1 w1 u. told_read f address go go' (λ v s2 w2. h v s2 w2 tt) s1 w1)
      (λ address value s1 w1 h. told_write f address value s1 w1)
      p call call' (λ t count self s1 w1 h. k t count self s1 w1) a s w tt

  told_found : {B : Type 0} (o : Option B) (go : B → Piece State H) (go' : B → Piece State K) → ((b : B) → ToldPiece f (go b) (go' b))
      → ToldPiece f (with_found o go) (with_found o go')
  told_found (Some b) go go' k s w = k b s w
  told_found None go go' k s w = ends

  told_back : (count : ℕ) (s0 : State) (vs : List Value)
      → ToldPiece f (take_from vs (λ v body. Gives (left count s0 v body))) (take_from vs (λ v body. Gives (left count s0 v body)))
  told_back count s0 [] s w = ends
  told_back count s0 (v ∷ vs) s w = gives

  told_routine : (p : Source) (call : Caller H) (call' : Caller K) → ToldCaller call call' → (routine : Routine) (count : ℕ) (self : Value)
      → ToldPiece f (run_routine r p call routine count self) (run_routine q p call' routine count self)
  told_routine p call call' k routine count self s w =
      told_then f _ _ (back_in count s) (back_in count s)
      (told_returned f _ _ (put routine.missing) (put routine.missing)
      (told_performed f r q tells truth (step p call) (step p call') (told_step p call call' k) routine.body (entered routine count self s) w) (λ s1 w1. gives))
      (λ s1. told_back count s s1.values s1)

  told_called : (p : Source) (n : ℕ) → ToldCaller (called r p n) (called q p n)
  told_called p zero t count self s w = ends
  told_called p (suc n) t count self s w =
      told_found (find_called p.routines t count) _ _ (λ routine. told_opened f r q tells (activity t routine.number)
      (run_routine r p (called r p n) routine count self) (run_routine q p (called q p n) routine count self)
      (told_routine p (called r p n) (called q p n) (told_called p n) routine count self)) s w

  told_take_from : (vs : List Value) → ToldPiece f (take_from vs (λ v. go_on)) (take_from vs (λ v. go_on))
  told_take_from [] s w = ends
  told_take_from (v ∷ vs) s w = gives

  told_alone : (p : Source) (t : Target) → ToldPiece f (call_alone r p t) (call_alone q p t)
  told_alone p t s w =
      told_then f _ _ (taking (λ v. go_on)) (taking (λ v. go_on)) (told_called p w.clock t 0 Null s w) (λ s1 w1. told_take_from s1.values s1 w1)

  told_start : (p : Source) (cs : List Name) → ToldPiece f (start_all r p cs) (start_all q p cs)
  told_start p [] s w = gives
  told_start p (c ∷ cs) s w = told_then f _ _ (start_all r p cs) (start_all q p cs) (told_alone p (Start c) s w) (told_start p cs)

  told_handled : (p : Source) (o : Option Target) → ToldPiece f (handled r p o) (handled q p o)
  told_handled p (Some t) s w = told_alone p t s w
  told_handled p None s w = gives

  pub told_starting : (history : H) (p : Source) (clock : ℕ) → Told f (starting r history p clock) (starting q (f history) p clock)
  told_starting history p clock =
      told_unless f _ _ OutOfRoom (start_all r p p.components) (start_all q p p.components) refl
      (told_start p p.components) (with_heap (first_heap p)) (starting_world history clock)

  pub told_running : (history : H) (p : Source) (heap : Heap) (deepest : Option ℕ) (reads interrupts : List ℕ) (clock : ℕ)
      → Told f (running r history p heap deepest reads interrupts clock) (running q (f history) p heap deepest reads interrupts clock)
  told_running history p heap deepest reads interrupts clock =
      told_then f _ _ (idles (length interrupts) (handle r p)) (idles (length interrupts) (handle q p))
      (told_alone p p.main (with_heap heap) (running_world history deepest reads interrupts clock))
      (told_idles f (length interrupts) (handle r p) (handle q p) (λ vector. told_handled p (handler_of p.handlers vector)))
