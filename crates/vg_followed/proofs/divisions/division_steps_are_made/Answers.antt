use Rattle.vg_followed.proofs.DividingInPlace.{goes_divides}
use Rattle.vg_followed.proofs.divisions.division_steps_are_made.Goals as goal

pub returns : goal.returns
returns c = λ e i ok m frames. goes_divides i ok m frames e ⊥
