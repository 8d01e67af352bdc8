use Rattle.vg_renamed.proofs.Calls.{same_called}
use Rattle.vg_renamed.proofs.renaming.same_calls.Goals as goal

pub returns : goal.returns
returns g c = λ n p q named formed r k. same_called n p q named formed r k
