use Rattle.vg_packed.proofs.Moves.{same_move}
use Rattle.vg_packed.proofs.step_laws.steps_are_packed.Goals as goal

pub returns : goal.returns
returns c = λ p κ n x k s a b. same_move p κ n x k s a b
