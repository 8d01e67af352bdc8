-- The laws of "alike": what is built of parts that do the same does the same. Each law is by cases on how the parts are the same; loops
-- go by induction on their turns.
use Rattle.std.specs.Prelude.{ℕ, zero, suc, Bool, true, false, List, [], ◌∷◌}
use Rattle.vg_meaning.specs.History.{Active, History, full}
use Rattle.vg_meaning.specs.Answer.{End, OutOfDepth, Signal, Breaks, Continues, Returns, Over, Answer, Piece, and_then, unless, passes}
use Rattle.vg_meaning.specs.Clock.{tick_at}
use Rattle.vg_meaning.specs.Calls.{closed, closing, unless_deep, note_call, opened, returned}
use Rattle.vg_meaning.specs.Loops.{turned, turns}
use Rattle.vg_meaning.specs.Interrupts.{interrupt_from, take_interrupt, idles}
use Rattle.vg_flattened.proofs.Alike.{Alike, gives, leaves, overs, wrong, AlikePiece, Inside}

pub alike_then : {S T : Type 0} {G J : S → T → Type 0} {L : Signal → S → T
    → Type 0} {a : Answer S History} {b : Answer T History} (f : Piece S History) (g : Piece T History)
    → Alike G L a b → AlikePiece G J L f g → Alike J L (and_then a f) (and_then b g)
alike_then f g (gives i p) k = k _ _ _ i p
alike_then f g (leaves i p) k = leaves i p
alike_then f g overs k = overs
alike_then f g wrong k = wrong

pub alike_tick_at : {S T : Type 0} {G J : S → T → Type 0} {L : Signal → S → T → Type 0} (note : History
    → History) (n : ℕ) (f : Piece S History) (g : Piece T History)
    → AlikePiece G J L f g → AlikePiece G J L (tick_at note n f) (tick_at note n g)
alike_tick_at note zero f g k s t w i p = overs
alike_tick_at note (suc n) f g k s t w i p = k s t _ (record { running = i.running; reads = i.reads }) p

pub alike_unless : {S T : Type 0} {G J : S → T → Type 0} {L : Signal → S → T → Type 0} (b : Bool) (why : End) (f : Piece S History) (g : Piece T History)
    → AlikePiece G J L f g → AlikePiece G J L (unless b why f) (unless b why g)
alike_unless true why f g k s t w i p = overs
alike_unless false why f g k s t w i p = k s t w i p

pub alike_map : {S T : Type 0} {G J : S → T → Type 0} {L : Signal → S → T → Type 0} {a : Answer S History} {b : Answer T History}
    → ((s : S) (t : T) → G s t → J s t) → Alike G L a b → Alike J L a b
alike_map h (gives i q) = gives i (h _ _ q)
alike_map h (leaves i q) = leaves i q
alike_map h overs = overs
alike_map h wrong = wrong

-- ---- calls

pub alike_opened : {S T : Type 0} {G J : S → T → Type 0} {L : Signal → S → T → Type 0} (call : Active) (f : Piece S History) (g : Piece T History)
    → AlikePiece G J L f g → AlikePiece G J L (opened full call f) (opened full call g)
alike_opened {S} {T} {G} {J} {L} call f g k s t w i p =
    alike_tick_at {G = G} {J = J} {L = L} (note_call full call) w.clock (unless_deep full (closing full f)) (unless_deep full (closing full g))
    (λ s1 t1 w1 i1 q. alike_unless {G = G} {J = J} {L = L} (passes w1.deepest (full.depth w1.history)) OutOfDepth (closing full f) (closing full g)
    (λ s2 t2 w2 i2 q2. alike_then (closed full) (closed full) (k s2 t2 w2 i2 q2)
    (λ s3 t3 w3 i3 q3. gives (record { running = i3.running; reads = i3.reads }) q3)) s1 t1 w1 i1 q) s t w i p

-- a body's end and its caller: J relates the states with the call's value
pub alike_returned : {S T : Type 0} {G J : S → T → Type 0} {L M : Signal → S → T
    → Type 0} {a : Answer S History} {b : Answer T History} (f : Piece S History) (g : Piece T History)
    → Alike G L a b → AlikePiece G J M f g → ((s : S) (t : T) → L Returns s t → J s t) → Alike J M (returned a f) (returned b g)
alike_returned f g (gives i p) k r = k _ _ _ i p
alike_returned f g (leaves {why = Breaks} i p) k r = overs
alike_returned f g (leaves {why = Continues} i p) k r = overs
alike_returned f g (leaves {why = Returns} i p) k r = gives i (r _ _ p)
alike_returned f g (leaves {why = Over why} i p) k r = overs
alike_returned f g overs k r = overs
alike_returned f g wrong k r = wrong

-- ---- loops

pub alike_turned : {S T : Type 0} {I : S → T → Type 0} {L : Signal → S → T
    → Type 0} {a : Answer S History} {b : Answer T History} (f : Piece S History) (g : Piece T History)
    → Alike I (Inside I L) a b → AlikePiece I I L f g → Alike I L (turned a f) (turned b g)
alike_turned f g (gives i p) k = k _ _ _ i p
alike_turned f g (leaves {why = Breaks} i p) k = gives i p
alike_turned f g (leaves {why = Continues} i p) k = k _ _ _ i p
alike_turned f g (leaves {why = Returns} i p) k = leaves i p
alike_turned f g (leaves {why = Over why} i p) k = overs
alike_turned f g overs k = overs
alike_turned f g wrong k = wrong

-- two conditions do the same with what they are given to do
abbrev pub AlikeCondition : {S T : Type 0} → (I : S → T → Type 0) → (L : Signal → S → T → Type 0)
    → (Piece S History → Piece S History) → (Piece T History → Piece T History) → Type 0
AlikeCondition {S} {T} I L c d = (f : Piece S History) (g : Piece T History) → AlikePiece I I L f g → AlikePiece I I L (c f) (d g)

pub alike_turns : {S T : Type 0} {I : S → T → Type 0} {L : Signal → S → T → Type 0} (c : Piece S History → Piece S History) (d : Piece T History
    → Piece T History) (body next : Piece S History) (body' next' : Piece T History)
    → AlikeCondition I L c d → AlikePiece I I (Inside I L) body body' → AlikePiece I I L next next' → (n : ℕ)
    → AlikePiece I I L (turns full n c body next) (turns full n d body' next')
alike_turns c d body next body' next' hc hb hn zero s t w i p = hc _ _ (λ s1 t1 w1 i1 q. overs) s t w i p
alike_turns {I = I} {L = L} c d body next body' next' hc hb hn (suc n) s t w i p =
    hc _ _ (λ s0 t0 w0 i0 q0. alike_tick_at {G = I} {J = I} {L = L} full.tick w0.clock _ _ (λ s1 t1 w1 i1 q. alike_turned _ _ (hb s1 t1 w1 i1 q)
    (λ s2 t2 w2 i2 q2. alike_then _ _ (hn s2 t2 w2 i2 q2) (alike_turns c d body next body' next' hc hb hn n))) s0 t0 w0 i0 q0) s t w i p

-- ---- interrupts

pub alike_interrupt_from : {S T : Type 0} {G J : S → T → Type 0} {L : Signal → S → T → Type 0} (vectors : List ℕ) (f : ℕ → Piece S History) (g : ℕ
    → Piece T History)
    → ((k : ℕ) → AlikePiece G J L (f k) (g k)) → AlikePiece G J L (interrupt_from vectors f) (interrupt_from vectors g)
alike_interrupt_from [] f g h s t w i p = overs
alike_interrupt_from (k ∷ ks) f g h s t w i p = h k s t _ (record { running = i.running; reads = i.reads }) p

pub alike_interrupt : {S T : Type 0} {G J : S → T → Type 0} {L : Signal → S → T → Type 0} (f : ℕ → Piece S History) (g : ℕ → Piece T History)
    → ((k : ℕ) → AlikePiece G J L (f k) (g k)) → AlikePiece G J L (take_interrupt f) (take_interrupt g)
alike_interrupt {G = G} {J = J} {L = L} f g h s t w i p = alike_interrupt_from {G = G} {J = J} {L = L} w.outside.interrupts f g h s t w i p

pub alike_idles : {S T : Type 0} {G : S → T → Type 0} {L : Signal → S → T → Type 0} (n : ℕ) (f : ℕ → Piece S History) (g : ℕ → Piece T History)
    → ((k : ℕ) → AlikePiece G G L (f k) (g k)) → AlikePiece G G L (idles n f) (idles n g)
alike_idles {G = G} {L = L} zero f g h s t w i p = alike_interrupt {G = G} {J = G} {L = L} f g h s t w i p
alike_idles {G = G} {L = L} (suc n) f g h s t w i p = alike_then _ _ (alike_interrupt {G = G} {J = G} {L = L} f g h s t w i p) (alike_idles n f g h)
