use Rattle.vg_sound.proofs.Calls.{safe_called}
use Rattle.vg_sound.proofs.soundness.right_calls.Goals as goal

pub returns : goal.returns
returns g c = λ r p good n. safe_called p good r n
