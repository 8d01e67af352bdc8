use Rattle.vg_renamed.proofs.Calls.{same_starting}
use Rattle.vg_renamed.proofs.renaming.same_starts.Goals as goal

pub returns : goal.returns
returns g c = λ n p q named formed r history clock. same_starting n p q named formed r history clock
