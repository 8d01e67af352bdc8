-- The laws of traces: what is built of pieces that only add to the trace only adds to it. Each law is by cases on the answer of the
-- first part, and what two parts add is put together; loops go by induction on their turns, whole code by that on the code.
use Rattle.std.specs.Prelude.{ℕ, zero, suc, Bool, true, false, List, [], ◌∷◌, ◌++◌}
use Rattle.std.proofs.Common.{refl, sym, ap, ◌∙◌}
use Rattle.std.proofs.lemmas.List.{append-nil, append_assoc}
use Rattle.vg_meaning.specs.declared.event.Event.{Event}
use Rattle.vg_meaning.specs.History.{Active, Recorder}
use Rattle.vg_meaning.specs.World.{Phase, Starting, Running}
use Rattle.vg_meaning.specs.Answer.{End, OutOfClock, OutOfDepth, Breaks, Continues, Returns, Over, Answer, Gives, Ends, Piece, go_on, over, and_then}
use Rattle.vg_meaning.specs.Answer.{unless, passes, stops}
use Rattle.vg_meaning.specs.Clock.{tick_at, ticked}
use Rattle.vg_meaning.specs.Calls.{closed, closing, unless_deep, note_call, opened, returned}
use Rattle.vg_meaning.specs.Loops.{Test, Tested, Untested, choose, where_holds, turned, turns, loop}
use Rattle.vg_meaning.specs.Devices.{read_from, read_device, write_in, write_device}
use Rattle.vg_meaning.specs.Interrupts.{interrupt_from, take_interrupt, idles}
use Rattle.vg_meaning.specs.Code.{Code, Nothing, Then, Do, If, Loop, Break, Continue, Return, performed}
use Rattle.vg_meaning_laws.specs.Grows.{trace_of, Extends, Grows}

pub extends_itself : (t : List Event) → Extends t t
extends_itself t = ([], sym (append-nil t))

pub extends_by : (t more : List Event) → Extends t (t ++ more)
extends_by t more = (more, refl)

pub extends_trans : (a b c : List Event) → Extends a b → Extends b c → Extends a c
extends_trans a b c (more, e) (rest, f) = (more ++ rest, f ∙ ap (λ t. t ++ rest) e ∙ append_assoc a more rest)

module _ {S H : Type 0} where
  pub grows_then : (old : List Event) (a : Answer S H) (p : Piece S H) → Extends old (trace_of a) → Grows p → Extends old (trace_of (and_then a p))
  grows_then old (Gives s w) p h k = extends_trans old w.outside.trace (trace_of (p s w)) h (k s w)
  grows_then old (Ends why s w) p h k = h

  pub grows_on : Grows {S = S} {H = H} go_on
  grows_on s w = extends_itself w.outside.trace

  pub grows_over : (why : End) → Grows {S = S} {H = H} (over why)
  grows_over why s w = extends_itself w.outside.trace

  pub grows_stops : (code at : ℕ) → Grows {S = S} {H = H} (stops code at)
  grows_stops code at s w = extends_itself w.outside.trace

  pub grows_unless : (b : Bool) (why : End) (p : Piece S H) → Grows p → Grows (unless b why p)
  grows_unless true why p k s w = extends_itself w.outside.trace
  grows_unless false why p k s w = k s w

  pub grows_tick_at : (note : H → H) (n : ℕ) (p : Piece S H) → Grows p → Grows (tick_at note n p)
  grows_tick_at note zero p k s w = extends_itself w.outside.trace
  grows_tick_at note (suc n) p k s w = k s (record w { clock = n; history = note w.history })

  pub grows_ticked : (r : Recorder H) (p : Piece S H) → Grows p → Grows (ticked r p)
  grows_ticked r p k s w = grows_tick_at r.tick w.clock p k s w

  pub grows_deep : (r : Recorder H) (p : Piece S H) → Grows p → Grows (unless_deep r (closing r p))
  grows_deep r p k s w =
      grows_unless (passes w.deepest (r.depth w.history)) OutOfDepth (closing r p)
      (λ s1 w1. grows_then w1.outside.trace (p s1 w1) (closed r) (k s1 w1) (λ s2 w2. extends_itself w2.outside.trace)) s w

  pub grows_opened : (r : Recorder H) (call : Active) (p : Piece S H) → Grows p → Grows (opened r call p)
  grows_opened r call p k s w = grows_tick_at (note_call r call) w.clock (unless_deep r (closing r p)) (grows_deep r p k) s w

  pub grows_returned : (old : List Event) (a : Answer S H) (p : Piece S H) → Extends old (trace_of a) → Grows p → Extends old (trace_of (returned a p))
  grows_returned old (Gives s w) p h k = extends_trans old w.outside.trace (trace_of (p s w)) h (k s w)
  grows_returned old (Ends Breaks s w) p h k = h
  grows_returned old (Ends Continues s w) p h k = h
  grows_returned old (Ends Returns s w) p h k = h
  grows_returned old (Ends (Over why) s w) p h k = h

  pub grows_turned : (old : List Event) (a : Answer S H) (p : Piece S H) → Extends old (trace_of a) → Grows p → Extends old (trace_of (turned a p))
  grows_turned old (Gives s w) p h k = extends_trans old w.outside.trace (trace_of (p s w)) h (k s w)
  grows_turned old (Ends Breaks s w) p h k = h
  grows_turned old (Ends Continues s w) p h k = extends_trans old w.outside.trace (trace_of (p s w)) h (k s w)
  grows_turned old (Ends Returns s w) p h k = h
  grows_turned old (Ends (Over why) s w) p h k = h

  pub grows_choose : (x : Test S) (p q : Piece S H) → Grows p → Grows q → Grows (choose x p q)
  grows_choose (Tested true s1) p q h k s w = h s1 w
  grows_choose (Tested false s1) p q h k s w = k s1 w
  grows_choose Untested p q h k s w = extends_itself w.outside.trace

  pub grows_where_holds : (test : S → Test S) (c p : Piece S H) → Grows c → Grows p → Grows (where_holds c test p)
  grows_where_holds test c p h k s w = grows_then w.outside.trace (c s w) _ (h s w) (λ s1 w1. grows_choose (test s1) p go_on k grows_on s1 w1)

  -- what is done behind the body, and then the turns that are left
  pub grows_next : (next more : Piece S H) → Grows next → Grows more → Grows (λ s w. and_then (next s w) more)
  grows_next next more hn hm s w = grows_then w.outside.trace (next s w) more (hn s w) hm

  pub grows_body : (body next more : Piece S H) → Grows body → Grows next → Grows more
      → Grows (λ s1 w1. turned (body s1 w1) (λ s2 w2. and_then (next s2 w2) more))
  grows_body body next more hb hn hm s w = grows_turned w.outside.trace (body s w) (λ s2 w2. and_then (next s2 w2) more) (hb s w) (grows_next next more hn hm)

  -- one turn of a loop
  pub grows_turn : (r : Recorder H) (body next more : Piece S H) → Grows body → Grows next → Grows more
      → Grows (ticked r (λ s1 w1. turned (body s1 w1) (λ s2 w2. and_then (next s2 w2) more)))
  grows_turn r body next more hb hn hm = grows_ticked r _ (grows_body body next more hb hn hm)

  pub grows_turns : (r : Recorder H) (test : S → Test S) (c body next : Piece S H) → Grows c → Grows body → Grows next → (n : ℕ)
      → Grows (turns r n (where_holds c test) body next)
  grows_turns r test c body next hc hb hn zero = grows_where_holds test c (over OutOfClock) hc (grows_over OutOfClock)
  grows_turns r test c body next hc hb hn (suc n) =
      grows_where_holds test c _ hc (grows_turn r body next (turns r n (where_holds c test) body next) hb hn (grows_turns r test c body next hc hb hn n))

  pub grows_loop : (r : Recorder H) (test : S → Test S) (c body next : Piece S H) → Grows c → Grows body → Grows next
      → Grows (loop r (where_holds c test) body next)
  grows_loop r test c body next hc hb hn s w = grows_turns r test c body next hc hb hn w.clock s w

  grows_read_from : (phase : Phase) (values : List ℕ) (address : ℕ) (p : ℕ → Piece S H) → ((v : ℕ) → Grows (p v)) → Grows (read_from phase values address p)
  grows_read_from Starting values address p k s w = extends_itself w.outside.trace
  grows_read_from Running [] address p k s w = extends_itself w.outside.trace
  grows_read_from Running (v ∷ vs) address p k s w = extends_trans w.outside.trace _ _ (extends_by w.outside.trace _) (k v s _)

  pub grows_read : (address : ℕ) (p : ℕ → Piece S H) → ((v : ℕ) → Grows (p v)) → Grows (read_device address p)
  grows_read address p k s w = grows_read_from w.phase w.outside.reads address p k s w

  grows_write_in : (phase : Phase) (address value : ℕ) → Grows {S = S} {H = H} (write_in phase address value)
  grows_write_in Starting address value s w = extends_itself w.outside.trace
  grows_write_in Running address value s w = extends_by w.outside.trace _

  pub grows_write : (address value : ℕ) → Grows {S = S} {H = H} (write_device address value)
  grows_write address value s w = grows_write_in w.phase address value s w

  grows_interrupt_from : (vectors : List ℕ) (p : ℕ → Piece S H) → ((k : ℕ) → Grows (p k)) → Grows (interrupt_from vectors p)
  grows_interrupt_from [] p k s w = extends_itself w.outside.trace
  grows_interrupt_from (v ∷ vs) p k s w = extends_trans w.outside.trace _ _ (extends_by w.outside.trace _) (k v s _)

  pub grows_interrupt : (p : ℕ → Piece S H) → ((k : ℕ) → Grows (p k)) → Grows (take_interrupt p)
  grows_interrupt p k s w = grows_interrupt_from w.outside.interrupts p k s w

  pub grows_idles : (n : ℕ) (p : ℕ → Piece S H) → ((k : ℕ) → Grows (p k)) → Grows (idles n p)
  grows_idles zero p k s w = grows_interrupt p k s w
  grows_idles (suc n) p k s w = grows_then w.outside.trace (take_interrupt p s w) (idles n p) (grows_interrupt p k s w) (grows_idles n p k)

  -- code only adds to the trace where its steps do
  pub grows_performed : {P : Type 0} (r : Recorder H) (test : S → Test S) (step : P → Piece S H) → ((p : P) → Grows (step p)) → (c : Code P)
      → Grows (performed r step test c)
  grows_performed r test step h Nothing s w = extends_itself w.outside.trace
  grows_performed r test step h (Then a b) s w =
      grows_then w.outside.trace (performed r step test a s w) (performed r step test b) (grows_performed r test step h a s w) (grows_performed r test step h b)
  grows_performed r test step h (Do p) s w = h p s w
  grows_performed r test step h (If a b) s w = grows_choose (test s) _ _ (grows_performed r test step h a) (grows_performed r test step h b) s w
  grows_performed r test step h (Loop c body next) s w =
      grows_loop r test _ _ _ (grows_performed r test step h c) (grows_performed r test step h body) (grows_performed r test step h next) s w
  grows_performed r test step h Break s w = extends_itself w.outside.trace
  grows_performed r test step h Continue s w = extends_itself w.outside.trace
  grows_performed r test step h Return s w = extends_itself w.outside.trace
