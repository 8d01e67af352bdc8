use Rattle.vg_templates.proofs.Computing.{takes_computes}
use Rattle.vg_templates.proofs.computations.computations_are_made.Goals as goal

pub returns : goal.returns
returns c = λ e i ok m frames. takes_computes i ok m frames e ⊥
