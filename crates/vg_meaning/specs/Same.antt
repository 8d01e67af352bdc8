-- Two runs do the same, clock for clock: the same answers in the very same worlds, with states that are related.
use Rattle.std.specs.Prelude.{true, false}
use Rattle.vg_meaning.specs.World.{World}
use Rattle.vg_meaning.specs.Answer.{End, Wrong, Signal, Breaks, Continues, Returns, Over, Answer, Gives, Ends, Piece}
use Rattle.vg_meaning.specs.Loops.{Test, Tested, Untested}
use Rattle.vg_meaning.specs.Shapes.{Shapes}

-- G relates the states where the code goes on, L those where it leaves. Where the whole run is over the states are past,
-- and what no legal program does owes nothing.
pub data Same {S T K : Type 0} (G : S → T → Type 0) (L : Signal → S → T → Type 0) : Answer S K → Answer T K → Type 0 where
  gives : {s : S} {t : T} {w : World K} → G s t → Same G L (Gives s w) (Gives t w)
  leaves : {why : Signal} {s : S} {t : T} {w : World K} → L why s t → Same G L (Ends why s w) (Ends why t w)
  overs : {why : End} {s : S} {t : T} {w : World K} → Same G L (Ends (Over why) s w) (Ends (Over why) t w)
  wrong : {s : S} {w : World K} {b : Answer T K} → Same G L (Ends (Over Wrong) s w) b

-- Two pieces do the same from states that F relates; behind them G relates the states.
abbrev pub SamePiece : {S T K : Type 0} → (F G : S → T → Type 0) → (L : Signal → S → T → Type 0) → Piece S K → Piece T K → Type 0
SamePiece {S} {T} {K} F G L f g = (s : S) (t : T) (w : World K) → F s t → Same G L (f s w) (g t w)

-- A call leaves in no other way than by the end of the whole run.
abbrev pub Nowhere : {S T : Type 0} → Signal → S → T → Type 0
Nowhere why s t = ⊥

-- One relation of the states, whatever the reason to leave.
abbrev pub Always : {S T : Type 0} → (S → T → Type 0) → Signal → S → T → Type 0
Always G why s t = G s t

-- One relation behind another, by a state between.
abbrev pub Across : {S T U : Type 0} → (S → T → Type 0) → (T → U → Type 0) → S → U → Type 0
Across {S} {T} {U} F G s u = (t : T) × F s t × G t u

-- Inside a loop, I relates the states with which the body breaks or continues.
abbrev pub Inside : {S T : Type 0} → (S → T → Type 0) → (Signal → S → T → Type 0) → Signal → S → T → Type 0
Inside I L Breaks = I
Inside I L Continues = I
Inside I L Returns = L Returns
Inside I L (Over why) = L (Over why)

-- Two conditions do the same with what they are given to do.
abbrev pub SameCondition : {S T : Type 0} (K : Type 0) → (I : S → T → Type 0) → (L : Signal → S → T → Type 0)
    → (Piece S K → Piece S K) → (Piece T K → Piece T K) → Type 0
SameCondition {S} {T} K I L c d = (f : Piece S K) (g : Piece T K) → SamePiece I I L f g → SamePiece I I L (c f) (d g)

-- Two tests take the same truth value, and leave related states; a test that takes none owes nothing.
abbrev pub SameTest : {S T : Type 0} → (S → T → Type 0) → Test S → Test T → Type 0
SameTest G (Tested true s) (Tested true t) = G s t
SameTest G (Tested false s) (Tested false t) = G s t
SameTest G Untested _ = Unit {0}
SameTest G _ _ = ⊥

-- The relation of the states with which code leaves: G by shape, and R where a value is returned.
abbrev pub Left : {P S T Shape : Type 0} → Shapes P Shape → (G : Shape → S → T → Type 0) → (R : S → T → Type 0)
    → Signal → S → T → Type 0
Left k G R Breaks s t = G k.between s t
Left k G R Continues s t = G k.between s t
Left k G R Returns s t = R s t
Left k G R (Over why) s t = ⊥
