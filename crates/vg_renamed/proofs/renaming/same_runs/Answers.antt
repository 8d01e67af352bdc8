use Rattle.vg_renamed.proofs.Calls.{same_running}
use Rattle.vg_renamed.proofs.renaming.same_runs.Goals as goal

pub returns : goal.returns
returns g c = λ n p q named formed r h history deepest reads interrupts clock. same_running n p q named formed r h history deepest reads interrupts clock
