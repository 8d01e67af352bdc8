-- What holds of all answers of a run, whichever way it goes: of its state and its history where it goes on or leaves, and of its
-- history and the reason where it is over. So it is said that a run is never Wrong, or what its open calls are.
use Rattle.std.specs.Prelude.{◌≡◌, Bool, true}
use Rattle.vg_meaning.specs.History.{Recorder}
use Rattle.vg_meaning.specs.World.{World}
use Rattle.vg_meaning.specs.Answer.{End, OutOfClock, Wrong, Signal, Breaks, Continues, Returns, Over, Answer, Gives, Ends, Piece}
use Rattle.vg_meaning.specs.Loops.{Test, Tested, Untested}
use Rattle.vg_meaning.specs.Shapes.{Shapes}

-- G holds of the state and the history where the run goes on, L of those where it leaves, and O of the reason and the history
-- where the whole run is over.
pub data Safe {S H : Type 0} (G : S → H → Type 0) (L : Signal → S → H → Type 0) (O : End → H → Type 0) : Answer S H → Type 0 where
  gives : {s : S} {w : World H} → G s w.history → Safe G L O (Gives s w)
  leaves : {why : Signal} {s : S} {w : World H} → L why s w.history → Safe G L O (Ends why s w)
  overs : {why : End} {s : S} {w : World H} → O why w.history → Safe G L O (Ends (Over why) s w)

-- From a state and a history of which F holds, the piece answers so.
abbrev pub SafePiece : {S H : Type 0} → (F G : S → H → Type 0) → (L : Signal → S → H → Type 0) → (O : End → H → Type 0) → Piece S H → Type 0
SafePiece {S} {H} F G L O f = (s : S) (w : World H) → F s w.history → Safe G L O (f s w)

-- A step or a call leaves in no other way than by the end of the whole run.
abbrev pub NoWay : {S H : Type 0} → Signal → S → H → Type 0
NoWay why s h = ⊥

-- A test leaves a state of which G holds; where it finds no truth value the run is Wrong.
abbrev pub SafeTest : {S H : Type 0} → (G : S → H → Type 0) → (O : End → H → Type 0) → H → Test S → Type 0
SafeTest G O h (Tested b s) = G s h
SafeTest G O h Untested = O Wrong h

-- Inside a loop, I holds where the body breaks or continues.
abbrev pub Within : {S H : Type 0} → (I : S → H → Type 0) → (L : Signal → S → H → Type 0) → Signal → S → H → Type 0
Within I L Breaks = I
Within I L Continues = I
Within I L Returns = L Returns
Within I L (Over why) = L (Over why)

-- What holds where code leaves: G by shape, and R where a value is returned; only a loop is broken or continued.
abbrev pub Leaving : {P S H Shape : Type 0} → Shapes P Shape → (G : Shape → S → H → Type 0) → (R : S → H → Type 0) → (looped : Bool)
    → Signal → S → H → Type 0
Leaving k G R looped Breaks s h = (looped ≡ true) × G k.between s h
Leaving k G R looped Continues s h = (looped ≡ true) × G k.between s h
Leaving k G R looped Returns s h = R s h
Leaving k G R looped (Over why) s h = ⊥

-- What holds of states and histories stays behind a tick, and the run may be out of clock there.
pub record Ticks {S H : Type 0} (r : Recorder H) (G : S → H → Type 0) (O : End → H → Type 0) : Type 0 where
  pub stays : (s : S) (h : H) → G s h → G s (r.tick h)
  pub spent : (s : S) (h : H) → G s h → O OutOfClock h

-- The end that no legal program has, whatever the history.
abbrev pub IsRight : {H : Type 0} → End → H → Type 0
IsRight Wrong h = ⊥
IsRight _ h = Unit {0}

-- Two answers show the same: they have the very same world, and end for the same reason where they end.
abbrev pub Alike : {S T H : Type 0} → Answer S H → Answer T H → Type 0
Alike (Gives s w) (Gives t v) = w ≡ v
Alike (Ends why s w) (Ends because t v) = (why ≡ because) × (w ≡ v)
Alike _ _ = ⊥
