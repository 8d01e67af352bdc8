use Rattle.vg_followed.proofs.Popping.{takes_pops_value}
use Rattle.vg_followed.proofs.taking.values_are_taken_back.Goals as goal

pub returns : goal.returns
returns c = λ e i ok m frames. takes_pops_value i ok m frames e ⊥
