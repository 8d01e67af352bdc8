use Rattle.vg_flat_taken.proofs.Whole.{is_left}
use Rattle.vg_flat_taken.proofs.laws.only_length_is_left.Goals as goal

pub returns : goal.returns
returns c = λ lay m e typed short. is_left lay m typed short e
