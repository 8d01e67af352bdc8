-- The laws of "the same, clock for clock": what is built of parts that do the same does the same. Each law is by cases on how
-- the parts are the same, and each case gives both worlds at once; loops go by induction on their turns, whole code by that on the code.
use Rattle.std.specs.Prelude.{ℕ, zero, suc, Bool, true, false, List, [], ◌∷◌}
use Rattle.std.proofs.Common.{refl, sym, subst}
use Rattle.vg_meaning.specs.History.{Active, Recorder}
use Rattle.vg_meaning.specs.World.{World, Phase, Starting, Running}
use Rattle.vg_meaning.specs.Answer.{End, OutOfDepth, Signal, Breaks, Continues, Returns, Over, Answer, Piece, go_on, over, and_then, unless, passes, stops}
use Rattle.vg_meaning.specs.Clock.{tick_at, ticked}
use Rattle.vg_meaning.specs.Calls.{closed, closing, unless_deep, note_call, opened, returned}
use Rattle.vg_meaning.specs.Loops.{Test, Tested, Untested, choose, turned, turns, loop}
use Rattle.vg_meaning.specs.Devices.{read_from, read_device, write_in, write_device}
use Rattle.vg_meaning.specs.Interrupts.{interrupt_from, take_interrupt, idles}
use Rattle.vg_meaning.specs.Code.{Code, Nothing, Then, Do, If, Loop, Break, Continue, Return, performed, replaced}
use Rattle.vg_meaning.specs.Shapes.{Shapes, Fits, shapeless}
use Rattle.vg_meaning.specs.Same.{Same, gives, leaves, overs, wrong, SamePiece, Nowhere, Across, Inside, SameCondition, SameTest, Always, Left}

pub same_then : {S T K : Type 0} {G J : S → T → Type 0} {L : Signal → S → T → Type 0} {a : Answer S K} {b : Answer T K} (f : Piece S K) (g : Piece T K)
    → Same G L a b → SamePiece G J L f g → Same J L (and_then a f) (and_then b g)
same_then f g (gives p) k = k _ _ _ p
same_then f g (leaves p) k = leaves p
same_then f g overs k = overs
same_then f g wrong k = wrong

-- a relation of the states that a call leaves with can be had for nothing
pub same_nowhere : {S T K : Type 0} {G : S → T → Type 0} (L : Signal → S → T → Type 0) (a : Answer S K) (b : Answer T K) → Same G Nowhere a b → Same G L a b
same_nowhere L _ _ (gives p) = gives p
same_nowhere L _ _ (leaves p) = absurd p
same_nowhere L _ _ overs = overs
same_nowhere L _ _ wrong = wrong

pub same_across : {S T U K : Type 0} {G : S → T → Type 0} {J : T → U → Type 0} {L : Signal → S → T → Type 0} {M : Signal → T → U
    → Type 0} {a : Answer S K} {b : Answer T K} {c : Answer U K}
    → Same G L a b → Same J M b c → Same (Across G J) (λ why. Across (L why) (M why)) a c
same_across (gives p) (gives q) = gives (_, p, q)
same_across (leaves p) (leaves q) = leaves (_, p, q)
same_across (leaves p) overs = overs
same_across overs (leaves q) = overs
same_across overs overs = overs
same_across wrong q = wrong
same_across overs wrong = wrong
same_across (leaves p) wrong = wrong

pub same_over : {S T K : Type 0} (G J : S → T → Type 0) (L : Signal → S → T → Type 0) (why : End) → SamePiece {K = K} G J L (over why) (over why)
same_over G J L why s t w p = overs

pub same_stops : {S T K : Type 0} (G J : S → T → Type 0) (L : Signal → S → T → Type 0) (code at : ℕ) → SamePiece {K = K} G J L (stops code at) (stops code at)
same_stops G J L code at s t w p = overs

pub same_unless : {S T K : Type 0} {G J : S → T → Type 0} {L : Signal → S → T → Type 0} (b : Bool) (why : End) (f : Piece S K) (g : Piece T K)
    → SamePiece G J L f g → SamePiece G J L (unless b why f) (unless b why g)
same_unless true why f g k s t w p = overs
same_unless false why f g k s t w p = k s t w p

pub same_tick_at : {S T K : Type 0} {G J : S → T → Type 0} {L : Signal → S → T → Type 0} (note : K → K) (n : ℕ) (f : Piece S K) (g : Piece T K)
    → SamePiece G J L f g → SamePiece G J L (tick_at note n f) (tick_at note n g)
same_tick_at note zero f g k s t w p = overs
same_tick_at note (suc n) f g k s t w p = k s t _ p

pub same_ticked : {S T K : Type 0} {G J : S → T → Type 0} {L : Signal → S → T → Type 0} (r : Recorder K) (f : Piece S K) (g : Piece T K)
    → SamePiece G J L f g → SamePiece G J L (ticked r f) (ticked r g)
same_ticked r f g k s t w p = same_tick_at r.tick w.clock f g k s t w p

-- ---- calls

pub same_opened : {S T K : Type 0} {G J : S → T → Type 0} {L : Signal → S → T → Type 0} (r : Recorder K) (call : Active) (f : Piece S K) (g : Piece T K)
    → SamePiece G J L f g → SamePiece G J L (opened r call f) (opened r call g)
same_opened r call f g k s t w p =
    same_tick_at (note_call r call) w.clock (unless_deep r (closing r f)) (unless_deep r (closing r g))
    (λ s1 t1 w1 q. same_unless (passes w1.deepest (r.depth w1.history)) OutOfDepth (closing r f) (closing r g)
    (λ s2 t2 w2 q2. same_then (closed r) (closed r) (k s2 t2 w2 q2) (λ s3 t3 w3 q3. gives q3)) s1 t1 w1 q) s t w p

-- a body's end and its caller: J relates the states with the call's value
pub same_returned : {S T K : Type 0} {G J : S → T → Type 0} {L M : Signal → S → T → Type 0} {a : Answer S K} {b : Answer T K} (f : Piece S K) (g : Piece T K)
    → Same G L a b → SamePiece G J M f g → ((s : S) (t : T) → L Returns s t → J s t) → Same J M (returned a f) (returned b g)
same_returned f g (gives p) k r = k _ _ _ p
same_returned f g (leaves {why = Breaks} p) k r = overs
same_returned f g (leaves {why = Continues} p) k r = overs
same_returned f g (leaves {why = Returns} p) k r = gives (r _ _ p)
same_returned f g (leaves {why = Over why} p) k r = overs
same_returned f g overs k r = overs
same_returned f g wrong k r = wrong

-- ---- choice and loops

pub same_choose : {S T K : Type 0} {G J : S → T → Type 0} {L : Signal → S → T → Type 0} (x : Test S) (y : Test T) (f f' : Piece S K) (g g' : Piece T K)
    → SameTest G x y → SamePiece G J L f g → SamePiece G J L f' g' → (s : S) (t : T) (w : World K) → Same J L (choose x f f' s w) (choose y g g' t w)
same_choose (Tested true s1) (Tested true t1) f f' g g' h k k' s t w = k s1 t1 w h
same_choose (Tested false s1) (Tested false t1) f f' g g' h k k' s t w = k' s1 t1 w h
same_choose (Tested true s1) (Tested false t1) f f' g g' h k k' s t w = absurd h
same_choose (Tested false s1) (Tested true t1) f f' g g' h k k' s t w = absurd h
same_choose (Tested true s1) Untested f f' g g' h k k' s t w = absurd h
same_choose (Tested false s1) Untested f f' g g' h k k' s t w = absurd h
same_choose Untested y f f' g g' h k k' s t w = wrong

pub same_turned : {S T K : Type 0} {I : S → T → Type 0} {L : Signal → S → T → Type 0} {a : Answer S K} {b : Answer T K} (f : Piece S K) (g : Piece T K)
    → Same I (Inside I L) a b → SamePiece I I L f g → Same I L (turned a f) (turned b g)
same_turned f g (gives p) k = k _ _ _ p
same_turned f g (leaves {why = Breaks} p) k = gives p
same_turned f g (leaves {why = Continues} p) k = k _ _ _ p
same_turned f g (leaves {why = Returns} p) k = leaves p
same_turned f g (leaves {why = Over why} p) k = overs
same_turned f g overs k = overs
same_turned f g wrong k = wrong

pub same_turns : {S T K : Type 0} {I : S → T → Type 0} {L : Signal → S → T → Type 0} (r : Recorder K) (c : Piece S K → Piece S K) (d : Piece T K
    → Piece T K) (body next : Piece S K) (body' next' : Piece T K)
    → SameCondition K I L c d → SamePiece I I (Inside I L) body body' → SamePiece I I L next next' → (n : ℕ)
    → SamePiece I I L (turns r n c body next) (turns r n d body' next')
same_turns r c d body next body' next' hc hb hn zero s t w p = hc _ _ (λ s1 t1 w1 q. overs) s t w p
same_turns r c d body next body' next' hc hb hn (suc n) s t w p =
    hc _ _ (same_ticked r _ _ (λ s1 t1 w1 q. same_turned _ _ (hb s1 t1 w1 q)
    (λ s2 t2 w2 q2. same_then _ _ (hn s2 t2 w2 q2) (same_turns r c d body next body' next' hc hb hn n)))) s t w p

pub same_loop : {S T K : Type 0} {I : S → T → Type 0} {L : Signal → S → T → Type 0} (r : Recorder K) (c : Piece S K → Piece S K) (d : Piece T K
    → Piece T K) (body next : Piece S K) (body' next' : Piece T K)
    → SameCondition K I L c d → SamePiece I I (Inside I L) body body' → SamePiece I I L next next' → SamePiece I I L (loop r c body next) (loop r d body' next')
same_loop r c d body next body' next' hc hb hn s t w p = same_turns r c d body next body' next' hc hb hn w.clock s t w p

-- ---- devices and interrupts

same_read_from : {S T K : Type 0} {G J : S → T → Type 0} {L : Signal → S → T → Type 0} (phase : Phase) (values : List ℕ) (address : ℕ) (f : ℕ
    → Piece S K) (g : ℕ → Piece T K)
    → ((v : ℕ) → SamePiece G J L (f v) (g v)) → SamePiece G J L (read_from phase values address f) (read_from phase values address g)
same_read_from Starting values address f g k s t w p = overs
same_read_from Running [] address f g k s t w p = overs
same_read_from Running (v ∷ vs) address f g k s t w p = k v s t _ p

pub same_read : {S T K : Type 0} {G J : S → T → Type 0} {L : Signal → S → T → Type 0} (address : ℕ) (f : ℕ → Piece S K) (g : ℕ → Piece T K)
    → ((v : ℕ) → SamePiece G J L (f v) (g v)) → SamePiece G J L (read_device address f) (read_device address g)
same_read address f g k s t w p = same_read_from w.phase w.outside.reads address f g k s t w p

same_write_in : {S T K : Type 0} {G : S → T → Type 0} {L : Signal → S → T → Type 0} (phase : Phase) (address value : ℕ)
    → SamePiece {K = K} G G L (write_in phase address value) (write_in phase address value)
same_write_in Starting address value s t w p = overs
same_write_in Running address value s t w p = gives p

pub same_write : {S T K : Type 0} {G : S → T → Type 0} {L : Signal → S → T → Type 0} (address value : ℕ)
    → SamePiece {K = K} G G L (write_device address value) (write_device address value)
same_write address value s t w p = same_write_in w.phase address value s t w p

same_interrupt_from : {S T K : Type 0} {G J : S → T → Type 0} {L : Signal → S → T → Type 0} (vectors : List ℕ) (f : ℕ → Piece S K) (g : ℕ → Piece T K)
    → ((k : ℕ) → SamePiece G J L (f k) (g k)) → SamePiece G J L (interrupt_from vectors f) (interrupt_from vectors g)
same_interrupt_from [] f g h s t w p = overs
same_interrupt_from (k ∷ ks) f g h s t w p = h k s t _ p

pub same_interrupt : {S T K : Type 0} {G J : S → T → Type 0} {L : Signal → S → T → Type 0} (f : ℕ → Piece S K) (g : ℕ → Piece T K)
    → ((k : ℕ) → SamePiece G J L (f k) (g k)) → SamePiece G J L (take_interrupt f) (take_interrupt g)
same_interrupt f g h s t w p = same_interrupt_from w.outside.interrupts f g h s t w p

pub same_idles : {S T K : Type 0} {G : S → T → Type 0} {L : Signal → S → T → Type 0} (n : ℕ) (f : ℕ → Piece S K) (g : ℕ → Piece T K)
    → ((k : ℕ) → SamePiece G G L (f k) (g k)) → SamePiece G G L (idles n f) (idles n g)
same_idles zero f g h s t w p = same_interrupt f g h s t w p
same_idles (suc n) f g h s t w p = same_then _ _ (same_interrupt f g h s t w p) (same_idles n f g h)

-- ---- whole code

module _ {P Q S T K Shape : Type 0} (r : Recorder K) (step : P → Piece S K) (test : S → Test S) (step' : Q → Piece T K) (test' : T → Test T) (move : P → Code Q)
    (k : Shapes P Shape) (G : Shape → S → T → Type 0) (R : S → T → Type 0)
    (steps : (p : P) (x y : Shape) → k.Takes p x y → SamePiece (G x) (G y) (Left k G R) (step p) (performed r step' test' (move p)))
    (tests : (x y : Shape) → k.Truth x y → (s : S) (t : T) → G x s t → SameTest (G y) (test s) (test' t))
    (results : (x : Shape) → k.Result x → (s : S) (t : T) → G x s t → R s t) where
  inside : (why : Signal) (s : S) (t : T) → Left k G R why s t → Inside (G k.between) (Left k G R) why s t
  inside Breaks s t p = p
  inside Continues s t p = p
  inside Returns s t p = p
  inside (Over why) s t p = p

  into_loop : {a : Answer S K} {b : Answer T K} {J : S → T → Type 0} → Same J (Left k G R) a b → Same J (Inside (G k.between) (Left k G R)) a b
  into_loop (gives p) = gives p
  into_loop (leaves {why = why} {s = s} {t = t} p) = leaves (inside why s t p)
  into_loop overs = overs
  into_loop wrong = wrong

  -- a pass that maps steps to code is right for code that fits where it is right for each step
  pub same_performed : (looped : Bool) (c : Code P) (x y : Shape) → Fits k looped c x y
      → SamePiece (G x) (G y) (Left k G R) (performed r step test c) (performed r step' test' (replaced move c))
  same_performed l Nothing x y e s t w p = gives (subst (λ z. G z s t) e p)
  same_performed l (Then a b) x y (z, ha, hb) s t w p = same_then _ _ (same_performed l a x z ha s t w p) (same_performed l b z y hb)
  same_performed l (Do p) x y h s t w q = steps p x y h s t w q
  same_performed l (If a b) x y (z, ht, ha, hb) s t w p =
      same_choose (test s) (test' t) _ _ _ _ (tests x z ht s t p) (same_performed l a z y ha) (same_performed l b z y hb) s t w
  same_performed l (Loop c body next) x y (ex, ey, z, hc, ht, hb, hn) s t w p =
      subst (λ v. Same (G v) (Left k G R) (performed r step test (Loop c body next) s w) (performed r step' test' (replaced move (Loop c body next)) t w))
      (sym ey)
      (same_loop r _ _ _ _ _ _
      (λ f g h s1 t1 w1 q. same_then _ _ (same_performed l c k.between z hc s1 t1 w1 q)
      (λ s2 t2 w2 q2. same_choose (test s2) (test' t2) f go_on g go_on (tests z k.between ht s2 t2 q2) h (λ s3 t3 w3 v. gives v) s2 t2 w2))
      (λ s1 t1 w1 q. into_loop (same_performed true body k.between k.between hb s1 t1 w1 q))
      (same_performed l next k.between k.between hn) s t w (subst (λ v. G v s t) ex p))
  same_performed l Break x y (_, e) s t w p = leaves (subst (λ z. G z s t) e p)
  same_performed l Continue x y (_, e) s t w p = leaves (subst (λ z. G z s t) e p)
  same_performed l Return x y h s t w p = leaves (results x h s t p)

-- where nothing need be known of the states, all code fits
pub fits_shapeless : {P : Type 0} (c : Code P) → Fits shapeless true c (tt {0}) (tt {0})
fits_shapeless Nothing = refl
fits_shapeless (Then a b) = (tt, fits_shapeless a, fits_shapeless b)
fits_shapeless (Do p) = tt
fits_shapeless (If a b) = (tt, tt, fits_shapeless a, fits_shapeless b)
fits_shapeless (Loop c body next) = (refl, refl, tt, fits_shapeless c, tt, fits_shapeless body, fits_shapeless next)
fits_shapeless Break = (refl, refl)
fits_shapeless Continue = (refl, refl)
fits_shapeless Return = tt

to_left : (P : Type 0) {S T K : Type 0} {G : S → T → Type 0} {a : Answer S K} {b : Answer T K} → Same G (Always G) a b
    → Same G (Left (shapeless {P = P}) (λ x. G) G) a b
to_left P (gives p) = gives p
to_left P (leaves {why = Breaks} p) = leaves p
to_left P (leaves {why = Continues} p) = leaves p
to_left P (leaves {why = Returns} p) = leaves p
to_left P (leaves {why = Over why} p) = overs
to_left P overs = overs
to_left P wrong = wrong

from_left : (P : Type 0) {S T K : Type 0} {G : S → T → Type 0} {a : Answer S K} {b : Answer T K} → Same G (Left (shapeless {P = P}) (λ x. G) G) a b
    → Same G (Always G) a b
from_left P (gives p) = gives p
from_left P (leaves {why = Breaks} p) = leaves p
from_left P (leaves {why = Continues} p) = leaves p
from_left P (leaves {why = Returns} p) = leaves p
from_left P (leaves {why = Over why} p) = overs
from_left P overs = overs
from_left P wrong = wrong

-- a pass is right for all code where it is right for each step
pub same_replaced : {P Q S T K : Type 0} (r : Recorder K) (step : P → Piece S K) (test : S → Test S) (step' : Q → Piece T K) (test' : T → Test T) (move : P
    → Code Q) (G : S → T → Type 0)
    → ((p : P) → SamePiece G G (Always G) (step p) (performed r step' test' (move p)))
    → ((s : S) (t : T) → G s t → SameTest G (test s) (test' t))
    → (c : Code P) → SamePiece G G (Always G) (performed r step test c) (performed r step' test' (replaced move c))
same_replaced {P = P} r step test step' test' move G steps tests c s t w p =
    from_left P (same_performed r step test step' test' move shapeless (λ x. G) G (λ q x y h s1 t1 w1 g. to_left P (steps q s1 t1 w1 g)) (λ x y h. tests)
    (λ x h s1 t1 g. g) true c tt tt (fits_shapeless c) s t w p)
