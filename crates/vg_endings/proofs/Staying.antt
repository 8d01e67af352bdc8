-- What is built of pieces that stay in a run stays in it. Each law is by cases on the answer of the first part, as those of traces are; loops go by
-- induction on their turns, whole code by that on the code.
use Rattle.std.specs.Prelude.{ℕ, zero, suc, Bool, true, false, List, [], ◌∷◌, Option, Some, None, nat_lt, length}
use Rattle.std.proofs.Common.{◌≡◌, refl, sym, ◌∙◌, subst}
use Rattle.vg_meaning.specs.declared.event.Event.TheVariants.{Enter}
use Rattle.vg_meaning.specs.Outside.{with_event}
use Rattle.vg_meaning.specs.History.{Active, Recorder}
use Rattle.vg_meaning.specs.World.{World, Phase, Starting, Running}
use Rattle.vg_meaning.specs.Answer.{End, OutOfClock, OutOfDepth, Breaks, Continues, Returns, Over, Answer, Gives, Ends, Piece, go_on, over, and_then}
use Rattle.vg_meaning.specs.Answer.{unless, passes}
use Rattle.vg_meaning.specs.Clock.{tick_at, ticked}
use Rattle.vg_meaning.specs.Calls.{closed, closing, unless_deep, note_call, opened, returned}
use Rattle.vg_meaning.specs.Loops.{Test, Tested, Untested, choose, where_holds, turned, turns}
use Rattle.vg_meaning.specs.Devices.{read_from, read_device, write_in, write_device}
use Rattle.vg_meaning.specs.Interrupts.{interrupt_from, idles}
use Rattle.vg_meaning.specs.Code.{Code, Nothing, Then, Do, If, Loop, Break, Continue, Return, performed}
use Rattle.vg_endings.specs.InRun.{InRun, IsLimited, IsEnd, StaysInRun, StaysPiece, EndsRun}

-- a run that goes on with another clock, outside and history is in the same run
pub in_run : {H : Type 0} (d : Option ℕ) (ints : List ℕ) (w v : World H) → v.phase ≡ w.phase → v.deepest ≡ w.deepest → v.largest ≡ w.largest
    → v.outside.interrupts ≡ w.outside.interrupts
    → InRun d ints w → InRun d ints v
in_run d ints w v p q r i h =
    record { phase = p ∙ h.phase; deepest_is = q ∙ h.deepest_is; largest_is = r ∙ h.largest_is; interrupts_are = i ∙ h.interrupts_are }

module _ {S H : Type 0} (d : Option ℕ) (ints : List ℕ) where
  abbrev Stays : Answer S H → Type 0
  Stays a = StaysInRun d ints a

  abbrev Keeps : Piece S H → Type 0
  Keeps p = StaysPiece d ints p

  pub stays_then : (a : Answer S H) (p : Piece S H) → Stays a → Keeps p → Stays (and_then a p)
  stays_then (Gives s w) p h k = k s w h
  stays_then (Ends why s w) p h k = h

  pub stays_on : Keeps go_on
  stays_on s w h = h

  pub stays_over : (why : End) → IsEnd d why → Keeps (over why)
  stays_over why e s w h = (h, e)

  stays_tick_at : (note : H → H) (n : ℕ) (p : Piece S H) → Keeps p → Keeps (tick_at note n p)
  stays_tick_at note zero p k s w h = (h, tt)
  stays_tick_at note (suc n) p k s w h = k s _ (in_run d ints w (record w { clock = n; history = note w.history }) refl refl refl refl h)

  stays_ticked : (r : Recorder H) (p : Piece S H) → Keeps p → Keeps (ticked r p)
  stays_ticked r p k s w h = stays_tick_at r.tick w.clock p k s w h

  -- the look at the depth: where no limit is there it lets all pass
  stays_unless : (limit : Option ℕ) (n : ℕ) (p : Piece S H) → Keeps p → d ≡ limit → Keeps (unless (passes limit n) OutOfDepth p)
  stays_unless None n p k e s w h = k s w h
  stays_unless (Some most) n p k e s w h = by_test (nat_lt most n)
    where
      by_test : (b : Bool) → Stays (unless b OutOfDepth p s w)
      by_test true = (h, subst IsLimited (sym e) tt)
      by_test false = k s w h

  stays_closing : (r : Recorder H) (p : Piece S H) → Keeps p → Keeps (closing r p)
  stays_closing r p k s w h =
      stays_then (p s w) (closed r) (k s w h) (λ s1 w1 h1. in_run d ints w1 (record w1 { history = r.close_call w1.history }) refl refl refl refl h1)

  stays_deep : (r : Recorder H) (p : Piece S H) → Keeps p → Keeps (unless_deep r (closing r p))
  stays_deep r p k s w h = stays_unless w.deepest (r.depth w.history) (closing r p) (stays_closing r p k) (sym h.deepest_is) s w h

  pub stays_opened : (r : Recorder H) (call : Active) (p : Piece S H) → Keeps p → Keeps (opened r call p)
  stays_opened r call p k s w h = stays_tick_at (note_call r call) w.clock (unless_deep r (closing r p)) (stays_deep r p k) s w h

  pub stays_returned : (a : Answer S H) (p : Piece S H) → Stays a → Keeps p → Stays (returned a p)
  stays_returned (Gives s w) p h k = k s w h
  stays_returned (Ends Breaks s w) p h k = (h.0, tt)
  stays_returned (Ends Continues s w) p h k = (h.0, tt)
  stays_returned (Ends Returns s w) p h k = h.0
  stays_returned (Ends (Over why) s w) p h k = h

  stays_turned : (a : Answer S H) (p : Piece S H) → Stays a → Keeps p → Stays (turned a p)
  stays_turned (Gives s w) p h k = k s w h
  stays_turned (Ends Breaks s w) p h k = h.0
  stays_turned (Ends Continues s w) p h k = k s w h.0
  stays_turned (Ends Returns s w) p h k = h
  stays_turned (Ends (Over why) s w) p h k = h

  stays_choose : (x : Test S) (p q : Piece S H) → Keeps p → Keeps q → Keeps (choose x p q)
  stays_choose (Tested true s1) p q h k s w i = h s1 w i
  stays_choose (Tested false s1) p q h k s w i = k s1 w i
  stays_choose Untested p q h k s w i = (i, tt)

  stays_where_holds : (test : S → Test S) (c p : Piece S H) → Keeps c → Keeps p → Keeps (where_holds c test p)
  stays_where_holds test c p h k s w i = stays_then (c s w) _ (h s w i) (λ s1 w1. stays_choose (test s1) p go_on k stays_on s1 w1)

  stays_next : (next more : Piece S H) → Keeps next → Keeps more → Keeps (λ s w. and_then (next s w) more)
  stays_next next more hn hm s w i = stays_then (next s w) more (hn s w i) hm

  stays_body : (body next more : Piece S H) → Keeps body → Keeps next → Keeps more
      → Keeps (λ s1 w1. turned (body s1 w1) (λ s2 w2. and_then (next s2 w2) more))
  stays_body body next more hb hn hm s w i = stays_turned (body s w) (λ s2 w2. and_then (next s2 w2) more) (hb s w i) (stays_next next more hn hm)

  stays_turns : (r : Recorder H) (test : S → Test S) (c body next : Piece S H) → Keeps c → Keeps body → Keeps next → (n : ℕ)
      → Keeps (turns r n (where_holds c test) body next)
  stays_turns r test c body next hc hb hn zero = stays_where_holds test c (over OutOfClock) hc (stays_over OutOfClock tt)
  stays_turns r test c body next hc hb hn (suc n) =
      stays_where_holds test c _ hc
      (stays_ticked r _ (stays_body body next (turns r n (where_holds c test) body next) hb hn (stays_turns r test c body next hc hb hn n)))

  stays_read_from : (phase : Phase) (values : List ℕ) (address : ℕ) (p : ℕ → Piece S H) → ((v : ℕ) → Keeps (p v)) → phase ≡ Running
      → Keeps (read_from phase values address p)
  stays_read_from Starting values address p k e s w h = absurd (let clash : Starting ≡ Running = e in cc)
  stays_read_from Running [] address p k e s w h = (h, tt)
  stays_read_from Running (v ∷ vs) address p k e s w h = k v s _ (in_run d ints w (record w { outside = _ }) refl refl refl refl h)

  pub stays_read : (address : ℕ) (p : ℕ → Piece S H) → ((v : ℕ) → Keeps (p v)) → Keeps (read_device address p)
  stays_read address p k s w h = stays_read_from w.phase w.outside.reads address p k h.phase s w h

  stays_write_in : (phase : Phase) (address value : ℕ) → phase ≡ Running → Keeps (write_in phase address value)
  stays_write_in Starting address value e s w h = absurd (let clash : Starting ≡ Running = e in cc)
  stays_write_in Running address value e s w h = in_run d ints w (record w { outside = _ }) refl refl refl refl h

  pub stays_write : (address value : ℕ) → Keeps (write_device address value)
  stays_write address value s w h = stays_write_in w.phase address value h.phase s w h

  -- code stays in a run where its steps do
  pub stays_performed : {P : Type 0} (r : Recorder H) (test : S → Test S) (step : P → Piece S H) → ((p : P) → Keeps (step p)) → (c : Code P)
      → Keeps (performed r step test c)
  stays_performed r test step k Nothing s w h = h
  stays_performed r test step k (Then a b) s w h =
      stays_then (performed r step test a s w) (performed r step test b) (stays_performed r test step k a s w h) (stays_performed r test step k b)
  stays_performed r test step k (Do p) s w h = k p s w h
  stays_performed r test step k (If a b) s w h = stays_choose (test s) _ _ (stays_performed r test step k a) (stays_performed r test step k b) s w h
  stays_performed r test step k (Loop c body next) s w h =
      stays_turns r test _ _ _ (stays_performed r test step k c) (stays_performed r test step k body) (stays_performed r test step k next) w.clock s w h
  stays_performed r test step k Break s w h = (h, tt)
  stays_performed r test step k Continue s w h = (h, tt)
  stays_performed r test step k Return s w h = (h, tt)

-- what ends behind what stays in a run ends
pub behind : {S H : Type 0} (d : Option ℕ) (vs : List ℕ) (a : Answer S H) (more : Piece S H) → StaysInRun d vs a
    → ((s : S) (w : World H) → InRun d vs w → EndsRun d (more s w)) → EndsRun d (and_then a more)
behind d vs (Gives s w) more h go = go s w h
behind d vs (Ends why s w) more h go = h.1

-- the idle loop ends, and as a run does: it takes each interrupt that is to come
module _ {S H : Type 0} (d : Option ℕ) (p : ℕ → Piece S H) (k : (vector : ℕ) (ints : List ℕ) → StaysPiece d ints (p vector)) where
  pub ends_idles : (ints : List ℕ) (s : S) (w : World H) → InRun d ints w → EndsRun d (idles (length ints) p s w)
  ends_idles [] s w h = subst (λ xs. EndsRun d (interrupt_from xs p s w)) (sym h.interrupts_are) tt
  ends_idles (v ∷ vs) s w h =
      let w1 : World H = record w { outside = with_event (record w.outside { interrupts = vs }) (Enter v) } in
      let h1 : InRun d vs w1 = record { phase = h.phase; deepest_is = h.deepest_is; largest_is = h.largest_is; interrupts_are = refl } in
      subst (λ xs. EndsRun d (and_then (interrupt_from xs p s w) (idles (length vs) p))) (sym h.interrupts_are)
      (behind d vs (p v s w1) (idles (length vs) p) (k v vs s w1 h1) (ends_idles vs))
