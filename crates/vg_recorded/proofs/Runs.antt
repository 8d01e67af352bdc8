-- Calls follow, by induction on the clock; so initialisation and runs do. What follows is told, and ends as a call does; the idle loop takes each
-- interrupt that is to come, and ends.
use Rattle.std.specs.Prelude.{ℕ, zero, suc, List, [], ◌∷◌, length, Option, Some, None, ◌==◌}
use Rattle.std.proofs.Common.{◌≡◌, refl, sym, subst}
use Rattle.vg_meaning.specs.declared.event.Event.TheVariants.{Enter}
use Rattle.vg_meaning.specs.History.{Recorder}
use Rattle.vg_meaning.specs.World.{World, Starting, Running}
use Rattle.vg_meaning.specs.Outside.{with_event}
use Rattle.vg_meaning.specs.Answer.{Stops, Wants, Touches, Done, OutOfClock, OutOfDepth, OutOfRoom, Wrong, Signal, Breaks, Continues, Returns, Over}
use Rattle.vg_meaning.specs.Answer.{Answer, Ends, Piece, and_then, go_on}
use Rattle.vg_meaning.specs.Code.{Code, performed}
use Rattle.vg_meaning.specs.Interrupts.{interrupt_from, idles}
use Rattle.vg_meaning_laws.specs.Grows.{trace_of, Extends, Grows}
use Rattle.vg_meaning_laws.proofs.Grows.{extends_itself, grows_idles, grows_performed}
use Rattle.vg_meaning_laws.specs.Told as of
use Rattle.vg_meaning_laws.specs.Told.{told, Told, ToldPiece, Tells}
use Rattle.vg_source.specs.Session.{starting_world, running_world}
use Rattle.vg_core.specs.declared.types.CoreType.{CoreType}
use Rattle.vg_core.specs.declared.value.CoreValue.{CoreValue}
use Rattle.vg_core.specs.declared.value.CoreValue.TheVariants.{Null}
use Rattle.vg_core.specs.declared.heap.Heap.{Heap}
use Rattle.vg_core.specs.declared.step.Step.{Step}
use Rattle.vg_core.specs.declared.program.Tables.{Tables}
use Rattle.vg_core.specs.declared.program.Target.{Target}
use Rattle.vg_core.specs.declared.program.Target.TheVariants.{Run, Start}
use Rattle.vg_core.specs.Heap.{default, stored_values}
use Rattle.vg_core.specs.Program.{Body, Program, Signature, signature_of, body_of}
use Rattle.vg_core.specs.State.{State, are_of, onto, entered}
use Rattle.vg_core.specs.Meaning.{Caller, step, truth, activity, back_in, put, run_body, taking, with_arguments, called}
use Rattle.vg_core.specs.Session.{call_alone, first_heap, start_all, with_heap, starting, handler_of, handled, handle, running}
use Rattle.std.specs.Prelude.{take}
use Rattle.vg_recorded.specs.Setting.{Setting, start_setting, run_setting, setting_of, IsIn, IsSignal, EndsStart, EndsRun}
use Rattle.vg_recorded.specs.Follows.{Follows, gives, ends, FollowsPiece}
use Rattle.vg_recorded.proofs.Pieces.{follows_then, follows_room, follows_returned, follows_opened, follows_performed}
use Rattle.vg_recorded.proofs.Steps.{Callers, on_put, on_found, on_taking, on_checked, on_type, on_forgetting, on_step}

module _ {H K : Type 0} (x : Setting) (f : H → K) (r : Recorder H) (q : Recorder K) (tells : Tells f r q) where
  on_back : (p : Tables) (t : CoreType) (count : ℕ) (s0 : State) → FollowsPiece x f (back_in p t count s0) (back_in p t count s0)
  on_back p t count s0 = on_taking x f _ _ (λ v. on_type x f p t v _ _ (λ body w h. gives h))

  on_body : (p : Tables) (call : Caller H) (call' : Caller K) → Callers x f call call' → (g : Signature) (b : Body) (count : ℕ) (self : CoreValue)
      → FollowsPiece x f (run_body r p call g b count self) (run_body q p call' g b count self)
  on_body p call call' k g b count self s w h =
      follows_then x f _ _ _ _
      (follows_returned x f _ _ _ _
      (follows_performed x f r q tells truth (step p call) (step p call') (on_step x f p call call' k) b.code (entered b count self s) w h)
      (on_put x f (default g.result)))
      (on_back p g.result count s)

  on_arguments : (p : Tables) (g : Signature) (count : ℕ) (a : Piece State H) (b : Piece State K) → FollowsPiece x f a b
      → FollowsPiece x f (with_arguments p g count a) (with_arguments p g count b)
  on_arguments p g count a b k =
      on_checked x f (length g.params == count) _ _
      (λ s. on_checked x f (are_of p s.heap.cells (onto g.params []) (take count s.values)) a b k s)

  pub on_called : (p : Program) (n : ℕ) → Callers x f (called r p n) (called q p n)
  on_called p zero t count self s w h = ends h tt
  on_called p (suc n) t count self s w h =
      on_found x f (signature_of p.tables t) _ _ (λ g. on_found x f (body_of p t) _ _ (λ b.
      on_arguments p.tables g count _ _
      (follows_opened x f r q tells (activity t) _ _ (on_body p.tables (called r p n) (called q p n) (on_called p n) g b count self)))) s w h

  on_alone : (p : Program) (t : Target) → FollowsPiece x f (call_alone r p t) (call_alone q p t)
  on_alone p t s w h = on_forgetting x f (called r p w.clock t 0 Null) (called q p w.clock t 0 Null) (on_called p w.clock t 0 Null) s w h

  on_start_all : (p : Program) (k : ℕ) (names : List ℕ) → FollowsPiece x f (start_all r p k names) (start_all q p k names)
  on_start_all p k [] s w h = gives h
  on_start_all p k (name ∷ names) s w h = follows_then x f _ _ _ _ (on_alone p (Start k) s w h) (on_start_all p (suc k) names)

  on_handled : (p : Program) (o : Option ℕ) → FollowsPiece x f (handled r p o) (handled q p o)
  on_handled p (Some m) s w h = on_alone p (Run m) s w h
  on_handled p None s w h = gives h

-- what follows is told
is_told : {S H K : Type 0} (x : Setting) (f : H → K) (a : Answer S H) (b : Answer S K) → Follows x f a b → Told f a b
is_told x f _ _ (gives h) = of.gives
is_told x f _ _ (ends h e) = of.ends

-- what follows at initialisation ends as it does
start_ends : {S H K : Type 0} (f : H → K) (a : Answer S H) (b : Answer S K) → Follows start_setting f a b → EndsStart a
start_ends f _ _ (gives h) = tt
start_ends f _ _ (ends {why = Over (Stops code at)} h e) = h.phase_is
start_ends f _ _ (ends {why = Over (Wants address)} h e) = let clash : Starting ≡ Running = e in cc
start_ends f _ _ (ends {why = Over (Touches address)} h e) = h.phase_is
start_ends f _ _ (ends {why = Over Done} h e) = e
start_ends f _ _ (ends {why = Over OutOfClock} h e) = h.phase_is
start_ends f _ _ (ends {why = Over OutOfDepth} h e) = h.phase_is
start_ends f _ _ (ends {why = Over OutOfRoom} h e) = h.phase_is
start_ends f _ _ (ends {why = Over Wrong} h e) = h.phase_is
start_ends f _ _ (ends {why = Breaks} h e) = h.phase_is
start_ends f _ _ (ends {why = Continues} h e) = h.phase_is
start_ends f _ _ (ends {why = Returns} h e) = h.phase_is

module _ {H K : Type 0} (f : H → K) (r : Recorder H) (q : Recorder K) (tells : Tells f r q) (history : H) (p : Program) where
  on_starting : (clock : ℕ) → Follows start_setting f (starting r history p clock) (starting q (f history) p clock)
  on_starting clock =
      follows_room start_setting f (stored_values (first_heap p)) _ _ (on_start_all start_setting f r q tells p 0 p.tables.components)
      (with_heap (first_heap p)) (starting_world history clock)
      (record { phase_is = refl; deepest_is = refl; largest_is = refl; interrupts_are = refl; seen_stays = ([], refl) })

  pub told_starting : (clock : ℕ) → Told f (starting r history p clock) (starting q (f history) p clock)
  told_starting clock = is_told _ f _ _ (on_starting clock)

  pub ends_starting : (clock : ℕ) → EndsStart (starting r history p clock)
  ends_starting clock = start_ends f _ _ (on_starting clock)

-- a call in a run ends as the run may
run_ends : {S H : Type 0} (d : Option ℕ) (ints : List ℕ) (why : Signal) (s : S) (w : World H) → IsSignal (run_setting d ints) why → EndsRun d (Ends why s w)
run_ends d ints (Over (Stops code at)) s w e = tt
run_ends d ints (Over (Wants address)) s w e = tt
run_ends d ints (Over (Touches address)) s w e = let clash : Running ≡ Starting = e in cc
run_ends d ints (Over Done) s w e = absurd e
run_ends d ints (Over OutOfClock) s w e = tt
run_ends d ints (Over OutOfDepth) s w e = e
run_ends d ints (Over OutOfRoom) s w e = e
run_ends d ints (Over Wrong) s w e = tt
run_ends d ints Breaks s w e = tt
run_ends d ints Continues s w e = tt
run_ends d ints Returns s w e = tt

module _ {S H K : Type 0} (d : Option ℕ) (f : H → K) where
  -- the second answer is the first with its history told, and it ends as a run does
  abbrev Whole : Answer S H → Answer S K → Type 0
  Whole a b = Told f a b × EndsRun d a

  whole_then : (ints : List ℕ) (a : Answer S H) (b : Answer S K) (p : Piece S H) (p' : Piece S K) → Follows (run_setting d ints) f a b
      → ((s : S) (w : World H) → IsIn (run_setting d ints) w → Whole (p s w) (p' s (told f w))) → Whole (and_then a p) (and_then b p')
  whole_then ints _ _ p p' (gives h) k = k _ _ h
  whole_then ints _ _ p p' (ends {why = why} {s = s} {w = w} h e) k = (of.ends, run_ends d ints why s w e)

  -- the idle loop
  module _ (p : ℕ → Piece S H) (p' : ℕ → Piece S K) (k : (vector : ℕ) (ints : List ℕ) → FollowsPiece (run_setting d ints) f (p vector) (p' vector)) where
    whole_idles : (ints : List ℕ) (s : S) (w : World H) → IsIn (run_setting d ints) w → Whole (idles (length ints) p s w) (idles (length ints) p' s (told f w))
    whole_idles [] s w h =
        subst (λ vs. Whole (interrupt_from vs p s w) (interrupt_from vs p' s (told f w))) (sym h.interrupts_are) (of.ends, tt)
    whole_idles (v ∷ vs) s w h =
        let w1 : World H = record w { outside = with_event (record w.outside { interrupts = vs }) (Enter v) } in
        let h1 : IsIn (run_setting d vs) w1 = record {
          phase_is = h.phase_is;
          deepest_is = h.deepest_is;
          largest_is = h.largest_is;
          interrupts_are = refl;
          seen_stays = (w1.outside.trace, refl);
        } in
        subst (λ ks. Whole (and_then (interrupt_from ks p s w) (idles (length vs) p)) (and_then (interrupt_from ks p' s (told f w)) (idles (length vs) p')))
        (sym h.interrupts_are) (whole_then vs _ _ (idles (length vs) p) (idles (length vs) p') (k v vs s w1 h1) (whole_idles vs))

module _ {H K : Type 0} (f : H → K) (r : Recorder H) (q : Recorder K) (tells : Tells f r q) (history : H) (p : Program) where
  whole_running : (heap : Heap) (d : Option ℕ) (reads interrupts : List ℕ) (clock : ℕ)
      → Whole d f (running r history p heap d reads interrupts clock) (running q (f history) p heap d reads interrupts clock)
  whole_running heap d reads interrupts clock =
      whole_then d f interrupts _ _ (idles (length interrupts) (handle r p)) (idles (length interrupts) (handle q p))
      (on_alone (run_setting d interrupts) f r q tells p (Run p.main) (with_heap heap) (running_world history d reads interrupts clock)
      (record { phase_is = refl; deepest_is = refl; largest_is = refl; interrupts_are = refl; seen_stays = ([], refl) }))
      (whole_idles d f (handle r p) (handle q p) (λ vector ints. on_handled (run_setting d ints) f r q tells p (handler_of p.handlers vector)) interrupts)

  pub told_running : (heap : Heap) (d : Option ℕ) (reads interrupts : List ℕ) (clock : ℕ)
      → Told f (running r history p heap d reads interrupts clock) (running q (f history) p heap d reads interrupts clock)
  told_running heap d reads interrupts clock = (whole_running heap d reads interrupts clock).0

  pub ends_running : (heap : Heap) (d : Option ℕ) (reads interrupts : List ℕ) (clock : ℕ) → EndsRun d (running r history p heap d reads interrupts clock)
  ends_running heap d reads interrupts clock = (whole_running heap d reads interrupts clock).1

-- a recorder follows itself
pub tells_itself : {H : Type 0} (r : Recorder H) → Tells (λ h. h) r r
tells_itself r = record { tick = λ h. refl; open_call = λ call h. refl; close_call = λ h. refl; depth = λ h. refl }

module _ {H : Type 0} where
  seen_grows : {S : Type 0} (x : Setting) (a b : Answer S H) → Follows x (λ h. h) a b → Extends x.seen (trace_of a)
  seen_grows x _ _ (gives h) = h.seen_stays
  seen_grows x _ _ (ends h e) = h.seen_stays

  grows : {S : Type 0} (p q : Piece S H) → ((x : Setting) → FollowsPiece x (λ h. h) p q) → Grows p
  grows p q k s w =
      seen_grows (setting_of w) (p s w) _ (k (setting_of w) s w
      (record { phase_is = refl; deepest_is = refl; largest_is = refl; interrupts_are = refl; seen_stays = extends_itself w.outside.trace }))

  pub grows_called : (r : Recorder H) (p : Program) (n : ℕ) (t : Target) (count : ℕ) (self : CoreValue) → Grows (called r p n t count self)
  grows_called r p n t count self =
      grows (called r p n t count self) (called r p n t count self) (λ x. on_called x (λ h. h) r r (tells_itself r) p n t count self)

  grows_step : (r : Recorder H) (p : Program) (n : ℕ) (st : Step) → Grows (step p.tables (called r p n) st)
  grows_step r p n st =
      grows (step p.tables (called r p n) st) (step p.tables (called r p n) st)
      (λ x. on_step x (λ h. h) p.tables (called r p n) (called r p n) (on_called x (λ h. h) r r (tells_itself r) p n) st)

  pub grows_code : (r : Recorder H) (p : Program) (n : ℕ) (c : Code Step) → Grows (performed r (step p.tables (called r p n)) truth c)
  grows_code r p n c = grows_performed r truth (step p.tables (called r p n)) (grows_step r p n) c

  -- what is done with the value of a call
  pub grows_back : (p : Tables) (t : CoreType) (count : ℕ) (s0 : State) → Grows {H = H} (back_in p t count s0)
  grows_back p t count s0 =
      grows (back_in p t count s0) (back_in p t count s0)
      (λ x. on_taking x (λ h. h) _ _ (λ v. on_type x (λ h. h) p t v _ _ (λ body w h. gives h)))

  pub grows_forgotten : Grows {H = H} (taking (λ v. go_on))
  grows_forgotten = grows (taking (λ v. go_on)) (taking (λ v. go_on)) (λ x. on_taking x (λ h. h) _ _ (λ v s w h. gives h))

  pub grows_replaced : (u : CoreValue) → Grows {H = H} (taking (λ v. put u))
  grows_replaced u = grows (taking (λ v. put u)) (taking (λ v. put u)) (λ x. on_taking x (λ h. h) _ _ (λ v. on_put x (λ h. h) u))

  pub grows_alone : (r : Recorder H) (p : Program) (t : Target) → Grows (call_alone r p t)
  grows_alone r p t = grows (call_alone r p t) (call_alone r p t) (λ x. on_alone x (λ h. h) r r (tells_itself r) p t)

  pub grows_idling : (r : Recorder H) (p : Program) (n : ℕ) → Grows (idles n (handle r p))
  grows_idling r p n =
      grows_idles n (handle r p)
      (λ vector. grows (handle r p vector) (handle r p vector) (λ x. on_handled x (λ h. h) r r (tells_itself r) p (handler_of p.handlers vector)))
