use Rattle.vg_sound.proofs.Runs.{right_running}
use Rattle.vg_sound.proofs.soundness.right_runs.Goals as goal

pub returns : goal.returns
returns g c = λ r p good h typed history deepest reads interrupts clock. right_running p good r h typed history deepest reads interrupts clock
