-- The laws of what holds of all answers: what is built of parts of which it holds has it too. Each law is by cases on the answer of
-- its first part; loops go by induction on their turns, whole code by that on the code.
use Rattle.std.specs.Prelude.{ℕ, zero, suc, Bool, true, false, List, [], ◌∷◌}
use Rattle.std.proofs.Common.{refl, sym, subst}
use Rattle.vg_meaning.specs.History.{Active, Recorder}
use Rattle.vg_meaning.specs.World.{World, Phase, Starting, Running}
use Rattle.vg_meaning.specs.Answer.{End, Stops, Wants, Touches, Done, OutOfClock, OutOfDepth, Wrong, Signal, Breaks, Continues, Returns, Over, Answer}
use Rattle.vg_meaning.specs.Answer.{Piece, go_on, over, and_then, unless, passes, kept, stops}
use Rattle.vg_meaning.specs.Clock.{tick_at, ticked}
use Rattle.vg_meaning.specs.Calls.{closed, closing, unless_deep, note_call, opened, returned}
use Rattle.vg_meaning.specs.Loops.{Test, Tested, Untested, choose, turned, turns, loop}
use Rattle.vg_meaning.specs.Devices.{read_from, read_device, write_in, write_device}
use Rattle.vg_meaning.specs.Interrupts.{interrupt_from, take_interrupt, idles}
use Rattle.vg_meaning.specs.Code.{Code, Nothing, Then, Do, If, Loop, Break, Continue, Return, performed}
use Rattle.vg_meaning.specs.Shapes.{Shapes, Fits}
use Rattle.vg_meaning.specs.Same.{Same}
use Rattle.vg_meaning.specs.Same as same
use Rattle.vg_meaning.specs.Safe.{Safe, gives, leaves, overs, SafePiece, NoWay, SafeTest, Within, Leaving, Ticks, IsRight, Alike}

pub safe_then : {S H : Type 0} {F G : S → H → Type 0} {L : Signal → S → H → Type 0} {O : End → H → Type 0} {a : Answer S H} (p : Piece S H)
    → Safe F L O a → SafePiece F G L O p → Safe G L O (and_then a p)
safe_then p (gives x) k = k _ _ x
safe_then p (leaves x) k = leaves x
safe_then p (overs x) k = overs x

-- what is known may be weakened
pub safe_weaker : {S H : Type 0} {F G : S → H → Type 0} {L M : Signal → S → H → Type 0} {O Q : End → H → Type 0} {a : Answer S H} → Safe F L O a
    → ((s : S) (h : H) → F s h → G s h) → ((why : Signal) (s : S) (h : H) → L why s h → M why s h) → ((why : End) (h : H) → O why h → Q why h)
    → Safe G M Q a
safe_weaker (gives {s = s} {w = w} x) g l o = gives (g s w.history x)
safe_weaker (leaves {why = why} {s = s} {w = w} x) g l o = leaves (l why s w.history x)
safe_weaker (overs {why = why} {w = w} x) g l o = overs (o why w.history x)

module _ {S H : Type 0} (F G : S → H → Type 0) (L : Signal → S → H → Type 0) (O : End → H → Type 0) where
  pub safe_over : (why : End) → ((s : S) (h : H) → F s h → O why h) → SafePiece F G L O (over why)
  safe_over why o s w x = overs (o s w.history x)

  pub safe_stops : (code at : ℕ) → ((at' : _) (s : S) (h : H) → F s h → O (Stops code at') h) → SafePiece F G L O (stops code at)
  safe_stops code at o s w x = overs (o (kept w.phase at) s w.history x)

  pub safe_unless : (b : Bool) (why : End) (p : Piece S H) → ((s : S) (h : H) → F s h → O why h) → SafePiece F G L O p → SafePiece F G L O (unless b why p)
  safe_unless true why p o k s w x = overs (o s w.history x)
  safe_unless false why p o k s w x = k s w x

  -- E holds behind the tick
  pub safe_tick_at : (E : S → H → Type 0) (note : H → H) (n : ℕ) (p : Piece S H) → ((s : S) (h : H) → F s h → E s (note h))
      → ((s : S) (h : H) → F s h → O OutOfClock h) → SafePiece E G L O p → SafePiece F G L O (tick_at note n p)
  safe_tick_at E note zero p e o k s w x = overs (o s w.history x)
  safe_tick_at E note (suc n) p e o k s w x = k s _ (e s w.history x)

  pub safe_ticked : (r : Recorder H) (p : Piece S H) → Ticks r F O → SafePiece F G L O p → SafePiece F G L O (ticked r p)
  safe_ticked r p t k s w x = safe_tick_at F r.tick w.clock p t.stays t.spent k s w x

  pub safe_choose : (x : Test S) (p q : Piece S H) → SafePiece F G L O p → SafePiece F G L O q → (s : S) (w : World H) → SafeTest F O w.history x
      → Safe G L O (choose x p q s w)
  safe_choose (Tested true s1) p q k l s w h = k s1 w h
  safe_choose (Tested false s1) p q k l s w h = l s1 w h
  safe_choose Untested p q k l s w h = overs h

  -- ---- devices and interrupts

  safe_read_from : (phase : Phase) (values : List ℕ) (address : ℕ) (p : ℕ → Piece S H) → ((s : S) (h : H) → F s h → O (Touches address) h)
      → ((s : S) (h : H) → F s h → O (Wants address) h) → ((v : ℕ) → SafePiece F G L O (p v)) → SafePiece F G L O (read_from phase values address p)
  safe_read_from Starting values address p o q k s w x = overs (o s w.history x)
  safe_read_from Running [] address p o q k s w x = overs (q s w.history x)
  safe_read_from Running (v ∷ vs) address p o q k s w x = k v s _ x

  pub safe_read : (address : ℕ) (p : ℕ → Piece S H) → ((s : S) (h : H) → F s h → O (Touches address) h) → ((s : S) (h : H) → F s h → O (Wants address) h)
      → ((v : ℕ) → SafePiece F G L O (p v)) → SafePiece F G L O (read_device address p)
  safe_read address p o q k s w x = safe_read_from w.phase w.outside.reads address p o q k s w x

  safe_interrupt_from : (vectors : List ℕ) (p : ℕ → Piece S H) → ((s : S) (h : H) → F s h → O Done h) → ((v : ℕ) → SafePiece F G L O (p v))
      → SafePiece F G L O (interrupt_from vectors p)
  safe_interrupt_from [] p o k s w x = overs (o s w.history x)
  safe_interrupt_from (v ∷ vs) p o k s w x = k v s _ x

  pub safe_interrupt : (p : ℕ → Piece S H) → ((s : S) (h : H) → F s h → O Done h) → ((v : ℕ) → SafePiece F G L O (p v))
      → SafePiece F G L O (take_interrupt p)
  safe_interrupt p o k s w x = safe_interrupt_from w.outside.interrupts p o k s w x

module _ {S H : Type 0} (F : S → H → Type 0) (L : Signal → S → H → Type 0) (O : End → H → Type 0) where
  safe_write_in : (phase : Phase) (address value : ℕ) → ((s : S) (h : H) → F s h → O (Touches address) h) → SafePiece F F L O (write_in phase address value)
  safe_write_in Starting address value o s w x = overs (o s w.history x)
  safe_write_in Running address value o s w x = gives x

  pub safe_write : (address value : ℕ) → ((s : S) (h : H) → F s h → O (Touches address) h) → SafePiece F F L O (write_device address value)
  safe_write address value o s w x = safe_write_in w.phase address value o s w x

  pub safe_idles : (n : ℕ) (p : ℕ → Piece S H) → ((s : S) (h : H) → F s h → O Done h) → ((v : ℕ) → SafePiece F F L O (p v)) → SafePiece F F L O (idles n p)
  safe_idles zero p o k s w x = safe_interrupt F F L O p o k s w x
  safe_idles (suc n) p o k s w x = safe_then (idles n p) (safe_interrupt F F L O p o k s w x) (safe_idles n p o k)

-- ---- calls

-- F holds before the call, E behind its tick, J behind its body and G behind its end
pub safe_opened : {S H : Type 0} (F E J G : S → H → Type 0) (L : Signal → S → H → Type 0) (O : End → H
    → Type 0) (r : Recorder H) (call : Active) (p : Piece S H)
    → ((s : S) (h : H) → F s h → E s (note_call r call h)) → ((s : S) (h : H) → F s h → O OutOfClock h) → ((s : S) (h : H) → E s h → O OutOfDepth h)
    → ((s : S) (h : H) → J s h → G s (r.close_call h)) → SafePiece E J NoWay O p → SafePiece F G L O (opened r call p)
safe_opened {S} {H} F E J G L O r call p opens spent deep closes k s w x =
    safe_tick_at F G L O E (note_call r call) w.clock (unless_deep r (closing r p)) opens spent
    (λ s1 w1 y. safe_unless E G L O (passes w1.deepest (r.depth w1.history)) OutOfDepth (closing r p) deep (λ s2 w2 z. ends (k s2 w2 z)) s1 w1 y) s w x
  where
    ends : {a : Answer S H} → Safe J NoWay O a → Safe G L O (and_then a (closed r))
    ends (gives {s = s1} {w = w1} y) = gives (closes s1 w1.history y)
    ends (leaves y) = absurd y
    ends (overs y) = overs y

-- the end of a body, and its caller: a body that breaks or continues is Wrong
pub safe_returned : {S H : Type 0} (E G : S → H → Type 0) (L M : Signal → S → H → Type 0) (O : End → H → Type 0) (a : Answer S H) (p : Piece S H)
    → Safe E L O a → SafePiece E G M O p → ((s : S) (h : H) → L Returns s h → G s h)
    → ((s : S) (h : H) → L Breaks s h → O Wrong h) → ((s : S) (h : H) → L Continues s h → O Wrong h)
    → ((why : End) (s : S) (h : H) → L (Over why) s h → O why h) → Safe G M O (returned a p)
safe_returned E G L M O _ p (gives x) k r b c o = k _ _ x
safe_returned E G L M O _ p (leaves {why = Breaks} {s = s} {w = w} x) k r b c o = overs (b s w.history x)
safe_returned E G L M O _ p (leaves {why = Continues} {s = s} {w = w} x) k r b c o = overs (c s w.history x)
safe_returned E G L M O _ p (leaves {why = Returns} {s = s} {w = w} x) k r b c o = gives (r s w.history x)
safe_returned E G L M O _ p (leaves {why = Over why} {s = s} {w = w} x) k r b c o = overs (o why s w.history x)
safe_returned E G L M O _ p (overs x) k r b c o = overs x

-- ---- loops

module _ {S H : Type 0} (r : Recorder H) (I : S → H → Type 0) (L : Signal → S → H → Type 0) (O : End → H → Type 0) (ticks : Ticks r I O)
    (never : (why : End) (s : S) (h : H) → L (Over why) s h → O why h) where
  safe_turned : {a : Answer S H} (p : Piece S H) → Safe I (Within I L) O a → SafePiece I I L O p → Safe I L O (turned a p)
  safe_turned p (gives x) k = k _ _ x
  safe_turned p (leaves {why = Breaks} x) k = gives x
  safe_turned p (leaves {why = Continues} x) k = k _ _ x
  safe_turned p (leaves {why = Returns} x) k = leaves x
  safe_turned p (leaves {why = Over why} {s = s} {w = w} x) k = overs (never why s w.history x)
  safe_turned p (overs x) k = overs x

  safe_turns : (c : Piece S H → Piece S H) (body next : Piece S H) → ((p : Piece S H) → SafePiece I I L O p → SafePiece I I L O (c p))
      → SafePiece I I (Within I L) O body → SafePiece I I L O next → (n : ℕ) → SafePiece I I L O (turns r n c body next)
  safe_turns c body next hc hb hn zero = hc _ (λ s w x. overs (ticks.spent s w.history x))
  safe_turns c body next hc hb hn (suc n) =
      hc _ (safe_ticked I I L O r _ ticks (λ s w x. safe_turned _ (hb s w x) (λ s1 w1 y. safe_then _ (hn s1 w1 y) (safe_turns c body next hc hb hn n))))

  pub safe_loop : (c : Piece S H → Piece S H) (body next : Piece S H) → ((p : Piece S H) → SafePiece I I L O p → SafePiece I I L O (c p))
      → SafePiece I I (Within I L) O body → SafePiece I I L O next → SafePiece I I L O (loop r c body next)
  safe_loop c body next hc hb hn s w x = safe_turns c body next hc hb hn w.clock s w x

-- ---- whole code

module _ {P S H Shape : Type 0} (r : Recorder H) (step : P → Piece S H) (test : S → Test S) (k : Shapes P Shape) (G : Shape → S → H → Type 0)
    (R : S → H → Type 0) (O : End → H → Type 0) (ticks : Ticks r (G k.between) O)
    (steps : (p : P) (x y : Shape) → k.Takes p x y → SafePiece (G x) (G y) NoWay O (step p))
    (tests : (x y : Shape) → k.Truth x y → (s : S) (h : H) → G x s h → SafeTest (G y) O h (test s))
    (results : (x : Shape) → k.Result x → (s : S) (h : H) → G x s h → R s h) where
  into : (looped : Bool) (why : Signal) (s : S) (h : H) → Leaving k G R true why s h → Within (G k.between) (Leaving k G R looped) why s h
  into looped Breaks s h x = x.1
  into looped Continues s h x = x.1
  into looped Returns s h x = x
  into looped (Over why) s h x = x

  -- it holds of whole code that fits where it holds of each step
  pub safe_performed : (looped : Bool) (c : Code P) (x y : Shape) → Fits k looped c x y
      → SafePiece (G x) (G y) (Leaving k G R looped) O (performed r step test c)
  safe_performed l Nothing x y e s w g = gives (subst (λ z. G z s w.history) e g)
  safe_performed l (Then a b) x y (z, ha, hb) s w g = safe_then _ (safe_performed l a x z ha s w g) (safe_performed l b z y hb)
  safe_performed l (Do p) x y h s w g = safe_weaker (steps p x y h s w g) (λ s1 h1 q. q) (λ why s1 h1 q. absurd q) (λ why h1 q. q)
  safe_performed l (If a b) x y (z, ht, ha, hb) s w g =
      safe_choose (G z) (G y) (Leaving k G R l) O (test s) _ _ (safe_performed l a z y ha) (safe_performed l b z y hb) s w (tests x z ht s w.history g)
  safe_performed l (Loop c body next) x y (ex, ey, z, hc, ht, hb, hn) s w g =
      subst (λ v. Safe (G v) (Leaving k G R l) O (performed r step test (Loop c body next) s w)) (sym ey)
      (safe_loop r (G k.between) (Leaving k G R l) O ticks (λ why s1 h1 q. absurd q) _ _ _
      (λ p h s1 w1 q. safe_then _ (safe_performed l c k.between z hc s1 w1 q)
      (λ s2 w2 q2. safe_choose (G k.between) (G k.between) (Leaving k G R l) O (test s2) p go_on h (λ s3 w3 q3. gives q3) s2 w2
      (tests z k.between ht s2 w2.history q2)))
      (λ s1 w1 q. safe_weaker (safe_performed true body k.between k.between hb s1 w1 q) (λ s2 h2 q2. q2) (into l) (λ why h2 q2. q2))
      (safe_performed l next k.between k.between hn) s w (subst (λ v. G v s w.history) ex g))
  safe_performed l Break x y (e, h) s w g = leaves (e, subst (λ z. G z s w.history) h g)
  safe_performed l Continue x y (e, h) s w g = leaves (e, subst (λ z. G z s w.history) h g)
  safe_performed l Return x y h s w g = leaves (results x h s w.history g)

-- what does the same as what is never Wrong ends in the very same world, for the same reason
pub same_shown : {S T H : Type 0} (F : S → T → Type 0) (L : Signal → S → T → Type 0) (G : S → H → Type 0) (a : Answer S H) (b : Answer T H)
    → Same F L a b → Safe G NoWay IsRight a → Alike a b
same_shown F L G _ _ (same.gives x) k = refl
same_shown F L G _ _ (same.leaves x) k = (refl, refl)
same_shown F L G _ _ same.overs k = (refl, refl)
same_shown F L G _ _ same.wrong (leaves x) = absurd x
same_shown F L G _ _ same.wrong (overs x) = absurd x
