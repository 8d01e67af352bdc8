-- The laws of the spent clock: it never rises, and a run that is out of clock has none left. Each law is by cases on the answer of the
-- first part, and inequalities of clocks are put together; a loop goes by induction on its turns, whole code by that on the code.
use Rattle.std.specs.Prelude.{ℕ, zero, suc, ◌≤◌, Bool, true, false, List, [], ◌∷◌}
use Rattle.std.proofs.Common.{◌≡◌, refl, sym, subst, arith}
use Rattle.vg_meaning.specs.History.{Active, Recorder}
use Rattle.vg_meaning.specs.World.{World, Phase, Starting, Running}
use Rattle.vg_meaning.specs.Answer.{End, Stops, Wants, Touches, Done, OutOfClock, OutOfDepth, Wrong, Signal, Breaks, Continues, Returns, Over, Answer}
use Rattle.vg_meaning.specs.Answer.{Piece, go_on, over, and_then, unless, passes, kept, stops}
use Rattle.vg_meaning.specs.Clock.{tick_at, ticked}
use Rattle.vg_meaning.specs.Calls.{closed, closing, unless_deep, note_call, opened, returned}
use Rattle.vg_meaning.specs.Loops.{Test, Tested, Untested, choose, where_holds, turned, turns, loop}
use Rattle.vg_meaning.specs.Devices.{read_from, read_device, write_in, write_device}
use Rattle.vg_meaning.specs.Interrupts.{interrupt_from, take_interrupt, idles}
use Rattle.vg_meaning.specs.Code.{Code, Nothing, Then, Do, If, Loop, Break, Continue, Return, performed}
use Rattle.vg_meaning_laws.specs.Spent.{Spent, gives, ends, Spends}

abbrev pub is_clock : Signal → Bool
is_clock (Over OutOfClock) = true
is_clock _ = false

-- a reason that is not the clock's end
pub other : (why : Signal) (A : Type 0) → is_clock why ≡ false → why ≡ Over OutOfClock → A
other why A e h = let x : true ≡ false = subst (λ z. is_clock z ≡ false) h e in absurd (grind arith)

module _ {S H : Type 0} where
  pub spent_more : (m k : ℕ) (a : Answer S H) → m ≤ k → Spent m a → Spent k a
  spent_more m k _ h (gives le) = gives (omega (arith, h, le))
  spent_more m k _ h (ends le z) = ends (omega (arith, h, le)) z

  pub spent_then : (n m : ℕ) (a : Answer S H) (p : Piece S H) → m ≤ n → Spent m a → Spends n p → Spent m (and_then a p)
  spent_then n m _ p h (gives {s = s} {w = w} le) k = spent_more w.clock m (p s w) le (k s w (omega (arith, h, le)))
  spent_then n m _ p h (ends le z) k = ends le z

  -- the end of the whole run for another reason than the clock
  pub spent_over : (n : ℕ) (why : End) → is_clock (Over why) ≡ false → Spends {S = S} {H = H} n (over why)
  spent_over n why e s w h = ends (omega arith) (other (Over why) _ e)

  pub spent_stops : (n code at : ℕ) → Spends {S = S} {H = H} n (stops code at)
  spent_stops n code at s w h = ends (omega arith) (other (Over (Stops code (kept w.phase at))) _ refl)

  pub spent_unless : (n : ℕ) (b : Bool) (why : End) (p : Piece S H) → is_clock (Over why) ≡ false → Spends n p → Spends n (unless b why p)
  spent_unless n true why p e k s w h = spent_over n why e s w h
  spent_unless n false why p e k s w h = k s w h

  pub spent_tick_at : (note : H → H) (n c : ℕ) (p : Piece S H) (s : S) (w : World H) → c ≡ w.clock → c ≤ suc n → Spends n p → Spent c (tick_at note c p s w)
  spent_tick_at note n zero p s w e h k = ends (omega (arith, e)) (λ _. sym e)
  spent_tick_at note n (suc c) p s w e h k = spent_more c (suc c) _ (omega arith) (k s (record w { clock = c; history = note w.history }) (omega (arith, h)))

  -- one tick less is enough behind a tick
  pub spent_ticked : (r : Recorder H) (n : ℕ) (p : Piece S H) → Spends n p → Spends (suc n) (ticked r p)
  spent_ticked r n p k s w h = spent_tick_at r.tick n w.clock p s w refl h k

  pub spent_closing : (r : Recorder H) (n : ℕ) (p : Piece S H) → Spends n p → Spends n (closing r p)
  spent_closing r n p k s w h = spent_then n w.clock (p s w) (closed r) h (k s w h) (λ s1 w1 h1. gives (omega arith))

  pub spent_opened : (r : Recorder H) (call : Active) (n : ℕ) (p : Piece S H) → Spends n p → Spends (suc n) (opened r call p)
  spent_opened r call n p k s w h =
      spent_tick_at (note_call r call) n w.clock (unless_deep r (closing r p)) s w refl h
      (λ s1 w1. spent_unless n (passes w1.deepest (r.depth w1.history)) OutOfDepth (closing r p) refl (spent_closing r n p k) s1 w1)

  pub spent_returned : (n m : ℕ) (a : Answer S H) (p : Piece S H) → m ≤ n → Spent m a → Spends n p → Spent m (returned a p)
  spent_returned n m _ p h (gives {s = s} {w = w} le) k = spent_more w.clock m (p s w) le (k s w (omega (arith, h, le)))
  spent_returned n m _ p h (ends {why = Breaks} le z) k = ends le (other (Over Wrong) _ refl)
  spent_returned n m _ p h (ends {why = Continues} le z) k = ends le (other (Over Wrong) _ refl)
  spent_returned n m _ p h (ends {why = Returns} le z) k = gives le
  spent_returned n m _ p h (ends {why = Over why} le z) k = ends le z

  pub spent_turned : (n m : ℕ) (a : Answer S H) (p : Piece S H) → m ≤ n → Spent m a → Spends n p → Spent m (turned a p)
  spent_turned n m _ p h (gives {s = s} {w = w} le) k = spent_more w.clock m (p s w) le (k s w (omega (arith, h, le)))
  spent_turned n m _ p h (ends {why = Breaks} le z) k = gives le
  spent_turned n m _ p h (ends {why = Continues} {s = s} {w = w} le z) k = spent_more w.clock m (p s w) le (k s w (omega (arith, h, le)))
  spent_turned n m _ p h (ends {why = Returns} le z) k = ends le z
  spent_turned n m _ p h (ends {why = Over why} le z) k = ends le z

  spent_read_from : (n : ℕ) (phase : Phase) (values : List ℕ) (address : ℕ) (p : ℕ → Piece S H) → ((v : ℕ) → Spends n (p v))
      → Spends n (read_from phase values address p)
  spent_read_from n Starting values address p k s w h = spent_over n (Touches address) refl s w h
  spent_read_from n Running [] address p k s w h = spent_over n (Wants address) refl s w h
  spent_read_from n Running (v ∷ vs) address p k s w h = k v s _ h

  pub spent_read : (n address : ℕ) (p : ℕ → Piece S H) → ((v : ℕ) → Spends n (p v)) → Spends n (read_device address p)
  spent_read n address p k s w h = spent_read_from n w.phase w.outside.reads address p k s w h

  spent_write_in : (n : ℕ) (phase : Phase) (address value : ℕ) → Spends {S = S} {H = H} n (write_in phase address value)
  spent_write_in n Starting address value s w h = spent_over n (Touches address) refl s w h
  spent_write_in n Running address value s w h = gives (omega arith)

  pub spent_write : (n address value : ℕ) → Spends {S = S} {H = H} n (write_device address value)
  spent_write n address value s w h = spent_write_in n w.phase address value s w h

  spent_interrupt_from : (n : ℕ) (vectors : List ℕ) (p : ℕ → Piece S H) → ((k : ℕ) → Spends n (p k)) → Spends n (interrupt_from vectors p)
  spent_interrupt_from n [] p k s w h = spent_over n Done refl s w h
  spent_interrupt_from n (v ∷ vs) p k s w h = k v s _ h

  pub spent_interrupt : (n : ℕ) (p : ℕ → Piece S H) → ((k : ℕ) → Spends n (p k)) → Spends n (take_interrupt p)
  spent_interrupt n p k s w h = spent_interrupt_from n w.outside.interrupts p k s w h

  pub spent_idles : (n m : ℕ) (p : ℕ → Piece S H) → ((k : ℕ) → Spends n (p k)) → Spends n (idles m p)
  spent_idles n zero p k s w h = spent_interrupt n p k s w h
  spent_idles n (suc m) p k s w h = spent_then n w.clock _ _ h (spent_interrupt n p k s w h) (spent_idles n m p k)

  pub spent_choose : (n : ℕ) (x : Test S) (p q : Piece S H) → Spends n p → Spends n q → Spends n (choose x p q)
  spent_choose n (Tested true s1) p q h k s w le = h s1 w le
  spent_choose n (Tested false s1) p q h k s w le = k s1 w le
  spent_choose n Untested p q h k s w le = spent_over n Wrong refl s w le

  spent_turns : (r : Recorder H) (most : ℕ) (test : S → Test S) (c body next : Piece S H) → Spends most c → Spends most body → Spends most next
      → (n : ℕ) → n ≤ most → Spends n (turns r n (where_holds c test) body next)
  spent_turns r most test c body next hc hb hn zero le s w h =
      spent_then zero w.clock _ _ h (hc s w (omega (arith, h, le)))
      (λ s1 w1 h1. spent_choose zero (test s1) (over OutOfClock) go_on (λ s2 w2 h2. ends (omega arith) (λ _. omega (arith, h2)))
      (λ s2 w2 h2. gives (omega arith)) s1 w1 h1)
  spent_turns r most test c body next hc hb hn (suc n) le s w h =
      spent_then (suc n) w.clock _ _ h (hc s w (omega (arith, h, le))) (λ s1 w1 h1. spent_choose (suc n) (test s1) _ go_on
      (spent_ticked r n _ (λ s3 w3 h3. spent_turned n w3.clock _ _ h3 (hb s3 w3 (omega (arith, h3, le)))
      (λ s4 w4 h4. spent_then n w4.clock _ _ h4 (hn s4 w4 (omega (arith, h4, le))) (spent_turns r most test c body next hc hb hn n (omega (arith, le))))))
      (λ s2 w2 h2. gives (omega arith)) s1 w1 h1)

  pub spent_loop : (r : Recorder H) (n : ℕ) (test : S → Test S) (c body next : Piece S H) → Spends n c → Spends n body → Spends n next
      → Spends n (loop r (where_holds c test) body next)
  spent_loop r n test c body next hc hb hn s w h = spent_turns r n test c body next hc hb hn w.clock h s w (omega arith)

  -- code spends what its steps spend
  pub spent_performed : {P : Type 0} (r : Recorder H) (n : ℕ) (test : S → Test S) (step : P → Piece S H) → ((p : P) → Spends n (step p)) → (c : Code P)
      → Spends n (performed r step test c)
  spent_performed r n test step h Nothing s w le = gives (omega arith)
  spent_performed r n test step h (Then a b) s w le = spent_then n w.clock _ _ le (spent_performed r n test step h a s w le) (spent_performed r n test step h b)
  spent_performed r n test step h (Do p) s w le = h p s w le
  spent_performed r n test step h (If a b) s w le = spent_choose n (test s) _ _ (spent_performed r n test step h a) (spent_performed r n test step h b) s w le
  spent_performed r n test step h (Loop c body next) s w le =
      spent_loop r n test _ _ _ (spent_performed r n test step h c) (spent_performed r n test step h body) (spent_performed r n test step h next) s w le
  spent_performed r n test step h Break s w le = ends (omega arith) (other Breaks _ refl)
  spent_performed r n test step h Continue s w le = ends (omega arith) (other Continues _ refl)
  spent_performed r n test step h Return s w le = ends (omega arith) (other Returns _ refl)
