-- Two runs do the same in fair worlds: those of a run whose device reads are bytes.
use Rattle.std.specs.Prelude.{◌≡◌}
use Rattle.vg_meaning.specs.World.{World, Running}
use Rattle.vg_meaning.specs.Outside.{AreReads}
use Rattle.vg_meaning.specs.Answer.{Wrong, Signal, Over, Answer, Gives, Ends, Piece}

-- Initialisation is over, and each device read to come is a byte.
pub record IsFair {K : Type 0} (w : World K) : Type 0 where
  pub running : w.phase ≡ Running
  pub reads : AreReads w.outside.reads

-- G relates the states where the code goes on, L those where it leaves; the worlds are the very same, and fair. Where the whole run is
-- over the states are past, and what no legal program does owes nothing.
pub data Alike {S T K : Type 0} (G : S → T → Type 0) (L : Signal → S → T → Type 0) : Answer S K → Answer T K → Type 0 where
  gives : {s : S} {t : T} {w : World K} → IsFair w → G s t → Alike G L (Gives s w) (Gives t w)
  leaves : {why : Signal} {s : S} {t : T} {w : World K} → IsFair w → L why s t → Alike G L (Ends why s w) (Ends why t w)
  overs : {why : _} {s : S} {t : T} {w : World K} → Alike G L (Ends (Over why) s w) (Ends (Over why) t w)
  wrong : {s : S} {w : World K} {b : Answer T K} → Alike G L (Ends (Over Wrong) s w) b

-- Two pieces do the same from states that F relates, in a fair world; behind them G relates the states.
abbrev pub AlikePiece : {S T K : Type 0} → (F G : S → T → Type 0) → (L : Signal → S → T → Type 0) → Piece S K → Piece T K → Type 0
AlikePiece {S} {T} {K} F G L f g = (s : S) (t : T) (w : World K) → IsFair w → F s t → Alike G L (f s w) (g t w)
