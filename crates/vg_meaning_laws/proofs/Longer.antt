-- The laws of more clock: a run with more ticks does the same, and goes on where it was out of clock. Each law is by cases on how the
-- first part does the same; where it is out of clock, what comes behind only adds to the trace. A loop goes by induction on its turns.
use Rattle.std.specs.Prelude.{ℕ, zero, suc, ◌+◌, ◌≤◌, Bool, true, false, List, [], ◌∷◌}
use Rattle.std.proofs.Common.{◌≡◌, sym, subst, arith}
use Rattle.vg_meaning.specs.History.{Active, Recorder}
use Rattle.vg_meaning.specs.World.{World, Phase, Starting, Running}
use Rattle.vg_meaning.specs.Answer.{End, OutOfDepth, Breaks, Continues, Returns, Over, Answer, Piece, go_on, over, and_then, unless, passes, stops}
use Rattle.vg_meaning.specs.Clock.{tick_at, ticked}
use Rattle.vg_meaning.specs.Calls.{closed, closing, unless_deep, note_call, opened, returned}
use Rattle.vg_meaning.specs.Loops.{Test, Tested, Untested, choose, where_holds, turned, turns, loop}
use Rattle.vg_meaning.specs.Devices.{read_from, read_device, write_in, write_device}
use Rattle.vg_meaning.specs.Interrupts.{interrupt_from, take_interrupt, idles}
use Rattle.vg_meaning.specs.Code.{Code, Nothing, Then, Do, If, Loop, Break, Continue, Return, performed}
use Rattle.vg_meaning_laws.specs.Grows.{Grows}
use Rattle.vg_meaning_laws.specs.Longer.{longer, Longer, gives, ends, out, LongerPiece}
use Rattle.vg_meaning_laws.proofs.Grows.{extends_itself, grows_on, grows_then, grows_turned, grows_returned, grows_tick_at, grows_deep, grows_choose, grows_next}
use Rattle.vg_meaning_laws.proofs.Grows.{grows_body, grows_turn, grows_turns, grows_idles, grows_performed}

module _ {S H : Type 0} (d : ℕ) where
  pub longer_then : (a b : Answer S H) (p q : Piece S H) → Longer d a b → LongerPiece d p q → Grows q → Longer d (and_then a p) (and_then b q)
  longer_then _ _ p q gives k g = k _ _
  longer_then _ _ p q ends k g = ends
  longer_then _ b p q (out {w = w} e) k g = out (grows_then w.outside.trace b q e g)

  pub longer_over : (why : End) → LongerPiece {S = S} {H = H} d (over why) (over why)
  longer_over why s w = ends

  pub longer_stops : (code at : ℕ) → LongerPiece {S = S} {H = H} d (stops code at) (stops code at)
  longer_stops code at s w = ends

  pub longer_unless : (b : Bool) (why : End) (p q : Piece S H) → LongerPiece d p q → LongerPiece d (unless b why p) (unless b why q)
  longer_unless true why p q k s w = ends
  longer_unless false why p q k s w = k s w

  pub longer_turned : (a b : Answer S H) (p q : Piece S H) → Longer d a b → LongerPiece d p q → Grows q → Longer d (turned a p) (turned b q)
  longer_turned _ _ p q gives k g = k _ _
  longer_turned _ _ p q (ends {why = Breaks}) k g = gives
  longer_turned _ _ p q (ends {why = Continues}) k g = k _ _
  longer_turned _ _ p q (ends {why = Returns}) k g = ends
  longer_turned _ _ p q (ends {why = Over why}) k g = ends
  longer_turned _ b p q (out {w = w} e) k g = out (grows_turned w.outside.trace b q e g)

  pub longer_returned : (a b : Answer S H) (p q : Piece S H) → Longer d a b → LongerPiece d p q → Grows q → Longer d (returned a p) (returned b q)
  longer_returned _ _ p q gives k g = k _ _
  longer_returned _ _ p q (ends {why = Breaks}) k g = ends
  longer_returned _ _ p q (ends {why = Continues}) k g = ends
  longer_returned _ _ p q (ends {why = Returns}) k g = gives
  longer_returned _ _ p q (ends {why = Over why}) k g = ends
  longer_returned _ b p q (out {w = w} e) k g = out (grows_returned w.outside.trace b q e g)

  pub longer_tick_at : (note : H → H) (n : ℕ) (p q : Piece S H) (s : S) (w : World H) → LongerPiece d p q → Grows q
      → Longer d (tick_at note n p s w) (tick_at note (n + d) q s (longer d w))
  longer_tick_at note zero p q s w k g = out (grows_tick_at note (zero + d) q g s (longer d w))
  longer_tick_at note (suc n) p q s w k g =
      let e : suc n + d ≡ suc (n + d) = omega arith in
      let w1 : World H = record w { clock = n; history = note w.history } in
      subst (λ m. Longer d (p s w1) (tick_at note m q s (longer d w))) (sym e) (k s w1)

  pub longer_ticked : (r : Recorder H) (p q : Piece S H) → LongerPiece d p q → Grows q → LongerPiece d (ticked r p) (ticked r q)
  longer_ticked r p q k g s w = longer_tick_at r.tick w.clock p q s w k g

  pub longer_opened : (r : Recorder H) (call : Active) (p q : Piece S H) → LongerPiece d p q → Grows q → LongerPiece d (opened r call p) (opened r call q)
  longer_opened r call p q k g s w =
      longer_tick_at (note_call r call) w.clock (unless_deep r (closing r p)) (unless_deep r (closing r q)) s w
      (λ s1 w1. longer_unless (passes w1.deepest (r.depth w1.history)) OutOfDepth (closing r p) (closing r q)
      (λ s2 w2. longer_then (p s2 w2) (q s2 (longer d w2)) (closed r) (closed r) (k s2 w2) (λ s3 w3. gives) (λ s3 w3. extends_itself w3.outside.trace)) s1 w1)
      (grows_deep r q g)

  longer_read_from : (phase : Phase) (values : List ℕ) (address : ℕ) (p q : ℕ → Piece S H)
      → ((v : ℕ) → LongerPiece d (p v) (q v)) → LongerPiece d (read_from phase values address p) (read_from phase values address q)
  longer_read_from Starting values address p q k s w = ends
  longer_read_from Running [] address p q k s w = ends
  longer_read_from Running (v ∷ vs) address p q k s w = k v s _

  pub longer_read : (address : ℕ) (p q : ℕ → Piece S H) → ((v : ℕ) → LongerPiece d (p v) (q v)) → LongerPiece d (read_device address p) (read_device address q)
  longer_read address p q k s w = longer_read_from w.phase w.outside.reads address p q k s w

  longer_write_in : (phase : Phase) (address value : ℕ) → LongerPiece {S = S} {H = H} d (write_in phase address value) (write_in phase address value)
  longer_write_in Starting address value s w = ends
  longer_write_in Running address value s w = gives

  pub longer_write : (address value : ℕ) → LongerPiece {S = S} {H = H} d (write_device address value) (write_device address value)
  longer_write address value s w = longer_write_in w.phase address value s w

  longer_interrupt_from : (vectors : List ℕ) (p q : ℕ → Piece S H) → ((k : ℕ) → LongerPiece d (p k) (q k))
      → LongerPiece d (interrupt_from vectors p) (interrupt_from vectors q)
  longer_interrupt_from [] p q h s w = ends
  longer_interrupt_from (k ∷ ks) p q h s w = h k s _

  pub longer_interrupt : (p q : ℕ → Piece S H) → ((k : ℕ) → LongerPiece d (p k) (q k)) → LongerPiece d (take_interrupt p) (take_interrupt q)
  longer_interrupt p q h s w = longer_interrupt_from w.outside.interrupts p q h s w

  pub longer_idles : (n : ℕ) (p q : ℕ → Piece S H) → ((k : ℕ) → LongerPiece d (p k) (q k)) → ((k : ℕ) → Grows (q k)) → LongerPiece d (idles n p) (idles n q)
  longer_idles zero p q h g s w = longer_interrupt p q h s w
  longer_idles (suc n) p q h g s w = longer_then _ _ _ _ (longer_interrupt p q h s w) (longer_idles n p q h g) (grows_idles n q g)

  pub longer_choose : (x : Test S) (p p1 q q1 : Piece S H) → LongerPiece d p q → LongerPiece d p1 q1 → LongerPiece d (choose x p p1) (choose x q q1)
  longer_choose (Tested true s1) p p1 q q1 h k s w = h s1 w
  longer_choose (Tested false s1) p p1 q q1 h k s w = k s1 w
  longer_choose Untested p p1 q q1 h k s w = ends

  longer_where_holds : (test : S → Test S) (c c' p q : Piece S H) → LongerPiece d c c' → LongerPiece d p q → Grows q
      → LongerPiece d (where_holds c test p) (where_holds c' test q)
  longer_where_holds test c c' p q h k g s w =
      longer_then _ _ _ _ (h s w) (λ s1 w1. longer_choose (test s1) p go_on q go_on k (λ s2 w2. gives) s1 w1)
      (λ s1 w1. grows_choose (test s1) q go_on g grows_on s1 w1)

  longer_turns : (r : Recorder H) (test : S → Test S) (c body next c' body' next' : Piece S H) → LongerPiece d c c' → LongerPiece d body body'
      → LongerPiece d next next'
      → Grows c' → Grows body' → Grows next' → (n m : ℕ) → n ≤ m
      → LongerPiece d (turns r n (where_holds c test) body next) (turns r m (where_holds c' test) body' next')
  longer_turns r test c body next c' body' next' hc hb hn gc gb gn zero zero le =
      longer_where_holds test c c' _ _ hc (λ s w. ends) (λ s w. extends_itself w.outside.trace)
  longer_turns r test c body next c' body' next' hc hb hn gc gb gn zero (suc m) le =
      longer_where_holds test c c' _ _ hc (λ s w. out (turn s (longer d w))) turn
    where
      turn : Grows (ticked r (λ s1 w1. turned (body' s1 w1) (λ s2 w2. and_then (next' s2 w2) (turns r m (where_holds c' test) body' next'))))
      turn = grows_turn r body' next' _ gb gn (grows_turns r test c' body' next' gc gb gn m)
  longer_turns r test c body next c' body' next' hc hb hn gc gb gn (suc n) zero le = absurd (omega arith)
  longer_turns r test c body next c' body' next' hc hb hn gc gb gn (suc n) (suc m) le =
      longer_where_holds test c c' _ _ hc
      (longer_ticked r _ _ (λ s3 w3. longer_turned _ _ _ _ (hb s3 w3)
      (λ s4 w4. longer_then _ _ _ _ (hn s4 w4) (longer_turns r test c body next c' body' next' hc hb hn gc gb gn n m (omega arith)) more)
      (grows_next next' (turns r m (where_holds c' test) body' next') gn more))
      (grows_body body' next' (turns r m (where_holds c' test) body' next') gb gn more))
      (grows_turn r body' next' (turns r m (where_holds c' test) body' next') gb gn more)
    where
      more : Grows (turns r m (where_holds c' test) body' next')
      more = grows_turns r test c' body' next' gc gb gn m

  pub longer_loop : (r : Recorder H) (test : S → Test S) (c body next c' body' next' : Piece S H) → LongerPiece d c c' → LongerPiece d body body'
      → LongerPiece d next next'
      → Grows c' → Grows body' → Grows next' → LongerPiece d (loop r (where_holds c test) body next) (loop r (where_holds c' test) body' next')
  longer_loop r test c body next c' body' next' hc hb hn gc gb gn s w =
      longer_turns r test c body next c' body' next' hc hb hn gc gb gn w.clock (w.clock + d) (omega arith) s w

  -- with more ticks code does the same, where its steps do
  pub longer_performed : {P : Type 0} (r : Recorder H) (test : S → Test S) (step step' : P → Piece S H) → ((p : P) → LongerPiece d (step p) (step' p))
      → ((p : P) → Grows (step' p))
      → (c : Code P) → LongerPiece d (performed r step test c) (performed r step' test c)
  longer_performed r test step step' h g Nothing s w = gives
  longer_performed r test step step' h g (Then a b) s w =
      longer_then _ _ _ _ (longer_performed r test step step' h g a s w) (longer_performed r test step step' h g b) (grows_performed r test step' g b)
  longer_performed r test step step' h g (Do p) s w = h p s w
  longer_performed r test step step' h g (If a b) s w =
      longer_choose (test s) _ _ _ _ (longer_performed r test step step' h g a) (longer_performed r test step step' h g b) s w
  longer_performed r test step step' h g (Loop c body next) s w =
      longer_loop r test _ _ _ _ _ _ (longer_performed r test step step' h g c) (longer_performed r test step step' h g body)
      (longer_performed r test step step' h g next)
      (grows_performed r test step' g c) (grows_performed r test step' g body) (grows_performed r test step' g next) s w
  longer_performed r test step step' h g Break s w = ends
  longer_performed r test step step' h g Continue s w = ends
  longer_performed r test step step' h g Return s w = ends
