-- Two runs do the same in worlds of a run whose reads are bytes.
use Rattle.std.specs.Prelude.{◌≡◌}
use Rattle.vg_meaning.specs.History.{History}
use Rattle.vg_meaning.specs.Outside.{AreReads}
use Rattle.vg_meaning.specs.World.{World, Running}
use Rattle.vg_meaning.specs.Answer.{Wrong, Signal, Breaks, Continues, Returns, Over, Answer, Gives, Ends, Piece}

-- A world of a run: initialisation is over, and device registers hold bytes.
pub record IsFair (w : World History) : Type 0 where
  pub running : w.phase ≡ Running
  pub reads : AreReads w.outside.reads

-- G relates the states where the code goes on, L those where it leaves; the worlds are the very same, and fair. Where the whole run is
-- over the states are past, and what no legal program does owes nothing.
pub data Alike {S T : Type 0} (G : S → T → Type 0) (L : Signal → S → T → Type 0) : Answer S History → Answer T History → Type 0 where
  gives : {s : S} {t : T} {w : World History} → IsFair w → G s t → Alike G L (Gives s w) (Gives t w)
  leaves : {why : Signal} {s : S} {t : T} {w : World History} → IsFair w → L why s t → Alike G L (Ends why s w) (Ends why t w)
  overs : {why : _} {s : S} {t : T} {w : World History} → Alike G L (Ends (Over why) s w) (Ends (Over why) t w)
  wrong : {s : S} {w : World History} {b : Answer T History} → Alike G L (Ends (Over Wrong) s w) b

-- From states that F relates, and from a fair world.
abbrev pub AlikePiece : {S T : Type 0} → (F G : S → T → Type 0) → (L : Signal → S → T → Type 0) → Piece S History → Piece T History → Type 0
AlikePiece {S} {T} F G L f g = (s : S) (t : T) (w : World History) → IsFair w → F s t → Alike G L (f s w) (g t w)

-- Inside a loop, I relates the states with which the body breaks or continues.
abbrev pub Inside : {S T : Type 0} → (S → T → Type 0) → (Signal → S → T → Type 0) → Signal → S → T → Type 0
Inside I L Breaks = I
Inside I L Continues = I
Inside I L Returns = L Returns
Inside I L (Over why) = L (Over why)
