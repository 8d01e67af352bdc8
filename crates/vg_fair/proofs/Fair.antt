-- The laws of "the same in fair worlds": what is built of parts that do the same does the same. Each law is by cases on how the parts
-- are the same; loops go by induction on their turns, whole code by that on the code.
use Rattle.std.specs.Prelude.{◌≡◌, ℕ, zero, suc, ◌<◌, Bool, true, false, List, [], ◌∷◌}
use Rattle.std.proofs.Common.{sym, subst}
use Rattle.vg_meaning.specs.History.{Active, Recorder}
use Rattle.vg_meaning.specs.World.{World, Phase, Starting, Running}
use Rattle.vg_meaning.specs.Outside.{AreReads}
use Rattle.vg_meaning.specs.Answer.{End, OutOfDepth, Signal, Breaks, Continues, Returns, Over, Answer, Piece, go_on, and_then, unless, passes, stops}
use Rattle.vg_meaning.specs.Clock.{tick_at}
use Rattle.vg_meaning.specs.Calls.{closed, closing, unless_deep, note_call, opened, returned}
use Rattle.vg_meaning.specs.Loops.{Test, Tested, Untested, choose, turned, turns, loop}
use Rattle.vg_meaning.specs.Devices.{read_from, read_device, write_in, write_device}
use Rattle.vg_meaning.specs.Interrupts.{interrupt_from, take_interrupt, idles}
use Rattle.vg_meaning.specs.Code.{Code, Nothing, Then, Do, If, Loop, Break, Continue, Return, performed, replaced}
use Rattle.vg_meaning.specs.Shapes.{Shapes, Fits}
use Rattle.vg_meaning.specs.Same.{Nowhere, Inside, SameTest, Left}
use Rattle.vg_fair.specs.Fair.{IsFair, Alike, gives, leaves, overs, wrong, AlikePiece}

pub alike_then : {S T K : Type 0} {G J : S → T → Type 0} {L : Signal → S → T → Type 0} {a : Answer S K} {b : Answer T K} (f : Piece S K) (g : Piece T K)
    → Alike G L a b → AlikePiece G J L f g → Alike J L (and_then a f) (and_then b g)
alike_then f g (gives i p) k = k _ _ _ i p
alike_then f g (leaves i p) k = leaves i p
alike_then f g overs k = overs
alike_then f g wrong k = wrong

-- a relation of the states that a call leaves with can be had for nothing
pub alike_nowhere : {S T K : Type 0} {G : S → T → Type 0} (L : Signal → S → T → Type 0) (a : Answer S K) (b : Answer T K) → Alike G Nowhere a b
    → Alike G L a b
alike_nowhere L _ _ (gives i p) = gives i p
alike_nowhere L _ _ (leaves i p) = absurd p
alike_nowhere L _ _ overs = overs
alike_nowhere L _ _ wrong = wrong

-- in a run no stop keeps its node
pub alike_stops : {S T K : Type 0} (G J : S → T → Type 0) (L : Signal → S → T → Type 0) (code at at' : ℕ)
    → AlikePiece {K = K} G J L (stops code at) (stops code at')
alike_stops {S} {T} {K} G J L code at at' s t w i p = by w.phase i.running
  where
    by : (phase : Phase) → phase ≡ Running → Alike J L (stops code at s (record w { phase = phase })) (stops code at' t (record w { phase = phase }))
    by Running e = overs
    by Starting e = absurd (let clash : Starting ≡ Running = e in cc)

pub alike_tick_at : {S T K : Type 0} {G J : S → T → Type 0} {L : Signal → S → T → Type 0} (note : K → K) (n : ℕ) (f : Piece S K) (g : Piece T K)
    → AlikePiece G J L f g → AlikePiece G J L (tick_at note n f) (tick_at note n g)
alike_tick_at note zero f g k s t w i p = overs
alike_tick_at note (suc n) f g k s t w i p = k s t _ (record { running = i.running; reads = i.reads }) p

pub alike_unless : {S T K : Type 0} {G J : S → T → Type 0} {L : Signal → S → T → Type 0} (b : Bool) (why : End) (f : Piece S K) (g : Piece T K)
    → AlikePiece G J L f g → AlikePiece G J L (unless b why f) (unless b why g)
alike_unless true why f g k s t w i p = overs
alike_unless false why f g k s t w i p = k s t w i p

-- ---- calls

pub alike_opened : {S T K : Type 0} {G J : S → T → Type 0} {L : Signal → S → T → Type 0} (r : Recorder K) (call : Active) (f : Piece S K) (g : Piece T K)
    → AlikePiece G J L f g → AlikePiece G J L (opened r call f) (opened r call g)
alike_opened {G = G} {J = J} {L = L} r call f g k s t w i p =
    alike_tick_at {G = G} {J = J} {L = L} (note_call r call) w.clock (unless_deep r (closing r f)) (unless_deep r (closing r g))
    (λ s1 t1 w1 i1 q. alike_unless {G = G} {J = J} {L = L} (passes w1.deepest (r.depth w1.history)) OutOfDepth (closing r f) (closing r g)
    (λ s2 t2 w2 i2 q2. alike_then (closed r) (closed r) (k s2 t2 w2 i2 q2)
    (λ s3 t3 w3 i3 q3. gives (record { running = i3.running; reads = i3.reads }) q3)) s1 t1 w1 i1 q) s t w i p

-- a body's end and its caller: J relates the states with the call's value
pub alike_returned : {S T K : Type 0} {G J : S → T → Type 0} {L M : Signal → S → T → Type 0} {a : Answer S K} {b : Answer T K} (f : Piece S K) (g : Piece T K)
    → Alike G L a b → AlikePiece G J M f g → ((s : S) (t : T) → L Returns s t → J s t) → Alike J M (returned a f) (returned b g)
alike_returned f g (gives i p) k r = k _ _ _ i p
alike_returned f g (leaves {why = Breaks} i p) k r = overs
alike_returned f g (leaves {why = Continues} i p) k r = overs
alike_returned f g (leaves {why = Returns} i p) k r = gives i (r _ _ p)
alike_returned f g (leaves {why = Over why} i p) k r = overs
alike_returned f g overs k r = overs
alike_returned f g wrong k r = wrong

-- ---- choice and loops

pub alike_choose : {S T K : Type 0} {G J : S → T → Type 0} {L : Signal → S → T → Type 0} (x : Test S) (y : Test T) (f f' : Piece S K) (g g' : Piece T K)
    → SameTest G x y → AlikePiece G J L f g → AlikePiece G J L f' g' → (s : S) (t : T) (w : World K) → IsFair w
    → Alike J L (choose x f f' s w) (choose y g g' t w)
alike_choose (Tested true s1) (Tested true t1) f f' g g' h k k' s t w i = k s1 t1 w i h
alike_choose (Tested false s1) (Tested false t1) f f' g g' h k k' s t w i = k' s1 t1 w i h
alike_choose (Tested true s1) (Tested false t1) f f' g g' h k k' s t w i = absurd h
alike_choose (Tested false s1) (Tested true t1) f f' g g' h k k' s t w i = absurd h
alike_choose (Tested true s1) Untested f f' g g' h k k' s t w i = absurd h
alike_choose (Tested false s1) Untested f f' g g' h k k' s t w i = absurd h
alike_choose Untested y f f' g g' h k k' s t w i = wrong

pub alike_turned : {S T K : Type 0} {I : S → T → Type 0} {L : Signal → S → T → Type 0} {a : Answer S K} {b : Answer T K} (f : Piece S K) (g : Piece T K)
    → Alike I (Inside I L) a b → AlikePiece I I L f g → Alike I L (turned a f) (turned b g)
alike_turned f g (gives i p) k = k _ _ _ i p
alike_turned f g (leaves {why = Breaks} i p) k = gives i p
alike_turned f g (leaves {why = Continues} i p) k = k _ _ _ i p
alike_turned f g (leaves {why = Returns} i p) k = leaves i p
alike_turned f g (leaves {why = Over why} i p) k = overs
alike_turned f g overs k = overs
alike_turned f g wrong k = wrong

-- two conditions do the same with what they are given to do
abbrev AlikeCondition : {S T : Type 0} (K : Type 0) → (I : S → T → Type 0) → (L : Signal → S → T → Type 0)
    → (Piece S K → Piece S K) → (Piece T K → Piece T K) → Type 0
AlikeCondition {S} {T} K I L c d = (f : Piece S K) (g : Piece T K) → AlikePiece I I L f g → AlikePiece I I L (c f) (d g)

pub alike_turns : {S T K : Type 0} {I : S → T → Type 0} {L : Signal → S → T → Type 0} (r : Recorder K) (c : Piece S K → Piece S K) (d : Piece T K
    → Piece T K) (body next : Piece S K) (body' next' : Piece T K)
    → AlikeCondition K I L c d → AlikePiece I I (Inside I L) body body' → AlikePiece I I L next next' → (n : ℕ)
    → AlikePiece I I L (turns r n c body next) (turns r n d body' next')
alike_turns r c d body next body' next' hc hb hn zero s t w i p = hc _ _ (λ s1 t1 w1 i1 q. overs) s t w i p
alike_turns {I = I} {L = L} r c d body next body' next' hc hb hn (suc n) s t w i p =
    hc _ _ (λ s0 t0 w0 i0 q0. alike_tick_at {G = I} {J = I} {L = L} r.tick w0.clock _ _ (λ s1 t1 w1 i1 q. alike_turned _ _ (hb s1 t1 w1 i1 q)
    (λ s2 t2 w2 i2 q2. alike_then _ _ (hn s2 t2 w2 i2 q2) (alike_turns r c d body next body' next' hc hb hn n))) s0 t0 w0 i0 q0) s t w i p

pub alike_loop : {S T K : Type 0} {I : S → T → Type 0} {L : Signal → S → T → Type 0} (r : Recorder K) (c : Piece S K → Piece S K) (d : Piece T K
    → Piece T K) (body next : Piece S K) (body' next' : Piece T K)
    → AlikeCondition K I L c d → AlikePiece I I (Inside I L) body body' → AlikePiece I I L next next'
    → AlikePiece I I L (loop r c body next) (loop r d body' next')
alike_loop r c d body next body' next' hc hb hn s t w i p = alike_turns r c d body next body' next' hc hb hn w.clock s t w i p

-- ---- devices and interrupts

alike_read_from : {S T K : Type 0} {G J : S → T → Type 0} {L : Signal → S → T → Type 0} (phase : Phase) (values : List ℕ) (address : ℕ) (f : ℕ
    → Piece S K) (g : ℕ → Piece T K)
    → ((v : ℕ) → v < 256 → AlikePiece G J L (f v) (g v)) → (s : S) (t : T) (w : World K) → phase ≡ Running → w.phase ≡ Running → AreReads values → G s t
    → Alike J L (read_from phase values address f s w) (read_from phase values address g t w)
alike_read_from Starting values address f g k s t w e i a p = overs
alike_read_from Running [] address f g k s t w e i a p = overs
alike_read_from Running (v ∷ vs) address f g k s t w e i a p = k v a.0 s t _ (record { running = i; reads = a.1 }) p

-- a read gives a byte
pub alike_read : {S T K : Type 0} {G J : S → T → Type 0} {L : Signal → S → T → Type 0} (address : ℕ) (f : ℕ → Piece S K) (g : ℕ → Piece T K)
    → ((v : ℕ) → v < 256 → AlikePiece G J L (f v) (g v)) → AlikePiece G J L (read_device address f) (read_device address g)
alike_read address f g k s t w i p = alike_read_from w.phase w.outside.reads address f g k s t w i.running i.running i.reads p

alike_write_in : {S T K : Type 0} {G : S → T → Type 0} {L : Signal → S → T → Type 0} (phase : Phase) (address value : ℕ)
    → AlikePiece {K = K} G G L (write_in phase address value) (write_in phase address value)
alike_write_in Starting address value s t w i p = overs
alike_write_in Running address value s t w i p = gives (record { running = i.running; reads = i.reads }) p

pub alike_write : {S T K : Type 0} {G : S → T → Type 0} {L : Signal → S → T → Type 0} (address value : ℕ)
    → AlikePiece {K = K} G G L (write_device address value) (write_device address value)
alike_write address value s t w i p = alike_write_in w.phase address value s t w i p

alike_interrupt_from : {S T K : Type 0} {G J : S → T → Type 0} {L : Signal → S → T → Type 0} (vectors : List ℕ) (f : ℕ → Piece S K) (g : ℕ → Piece T K)
    → ((k : ℕ) → AlikePiece G J L (f k) (g k)) → AlikePiece G J L (interrupt_from vectors f) (interrupt_from vectors g)
alike_interrupt_from [] f g h s t w i p = overs
alike_interrupt_from (k ∷ ks) f g h s t w i p = h k s t _ (record { running = i.running; reads = i.reads }) p

pub alike_interrupt : {S T K : Type 0} {G J : S → T → Type 0} {L : Signal → S → T → Type 0} (f : ℕ → Piece S K) (g : ℕ → Piece T K)
    → ((k : ℕ) → AlikePiece G J L (f k) (g k)) → AlikePiece G J L (take_interrupt f) (take_interrupt g)
alike_interrupt f g h s t w i p = alike_interrupt_from w.outside.interrupts f g h s t w i p

pub alike_idles : {S T K : Type 0} {G : S → T → Type 0} {L : Signal → S → T → Type 0} (n : ℕ) (f : ℕ → Piece S K) (g : ℕ → Piece T K)
    → ((k : ℕ) → AlikePiece G G L (f k) (g k)) → AlikePiece G G L (idles n f) (idles n g)
alike_idles zero f g h s t w i p = alike_interrupt f g h s t w i p
alike_idles (suc n) f g h s t w i p = alike_then _ _ (alike_interrupt f g h s t w i p) (alike_idles n f g h)

-- ---- whole code

module _ {P Q S T K Shape : Type 0} (r : Recorder K) (step : P → Piece S K) (test : S → Test S) (step' : Q → Piece T K) (test' : T → Test T) (move : P → Code Q)
    (k : Shapes P Shape) (G : Shape → S → T → Type 0) (R : S → T → Type 0)
    (steps : (p : P) (x y : Shape) → k.Takes p x y → AlikePiece (G x) (G y) (Left k G R) (step p) (performed r step' test' (move p)))
    (tests : (x y : Shape) → k.Truth x y → (s : S) (t : T) → G x s t → SameTest (G y) (test s) (test' t))
    (results : (x : Shape) → k.Result x → (s : S) (t : T) → G x s t → R s t) where
  inside : (why : Signal) (s : S) (t : T) → Left k G R why s t → Inside (G k.between) (Left k G R) why s t
  inside Breaks s t p = p
  inside Continues s t p = p
  inside Returns s t p = p
  inside (Over why) s t p = p

  into_loop : {a : Answer S K} {b : Answer T K} {J : S → T → Type 0} → Alike J (Left k G R) a b → Alike J (Inside (G k.between) (Left k G R)) a b
  into_loop (gives i p) = gives i p
  into_loop (leaves {why = why} {s = s} {t = t} i p) = leaves i (inside why s t p)
  into_loop overs = overs
  into_loop wrong = wrong

  -- a pass that maps steps to code is right for code that fits where it is right for each step
  pub alike_performed : (looped : Bool) (c : Code P) (x y : Shape) → Fits k looped c x y
      → AlikePiece (G x) (G y) (Left k G R) (performed r step test c) (performed r step' test' (replaced move c))
  alike_performed l Nothing x y e s t w i p = gives i (subst (λ z. G z s t) e p)
  alike_performed l (Then a b) x y (z, ha, hb) s t w i p = alike_then _ _ (alike_performed l a x z ha s t w i p) (alike_performed l b z y hb)
  alike_performed l (Do p) x y h s t w i q = steps p x y h s t w i q
  alike_performed l (If a b) x y (z, ht, ha, hb) s t w i p =
      alike_choose (test s) (test' t) _ _ _ _ (tests x z ht s t p) (alike_performed l a z y ha) (alike_performed l b z y hb) s t w i
  alike_performed l (Loop c body next) x y (ex, ey, z, hc, ht, hb, hn) s t w i p =
      subst (λ v. Alike (G v) (Left k G R) (performed r step test (Loop c body next) s w) (performed r step' test' (replaced move (Loop c body next)) t w))
      (sym ey)
      (alike_loop r _ _ _ _ _ _
      (λ f g h s1 t1 w1 i1 q. alike_then _ _ (alike_performed l c k.between z hc s1 t1 w1 i1 q)
      (λ s2 t2 w2 i2 q2. alike_choose (test s2) (test' t2) f go_on g go_on (tests z k.between ht s2 t2 q2) h (λ s3 t3 w3 i3 v. gives i3 v) s2 t2 w2 i2))
      (λ s1 t1 w1 i1 q. into_loop (alike_performed true body k.between k.between hb s1 t1 w1 i1 q))
      (alike_performed l next k.between k.between hn) s t w i (subst (λ v. G v s t) ex p))
  alike_performed l Break x y (_, e) s t w i p = leaves i (subst (λ z. G z s t) e p)
  alike_performed l Continue x y (_, e) s t w i p = leaves i (subst (λ z. G z s t) e p)
  alike_performed l Return x y h s t w i p = leaves i (results x h s t p)
