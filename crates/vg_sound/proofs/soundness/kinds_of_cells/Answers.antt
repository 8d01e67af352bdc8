use Rattle.vg_sound.proofs.Runs.{kinds_of_heap}
use Rattle.vg_sound.proofs.soundness.kinds_of_cells.Goals as goal

pub returns : goal.returns
returns c = λ p κ h typed. kinds_of_heap p κ h typed
