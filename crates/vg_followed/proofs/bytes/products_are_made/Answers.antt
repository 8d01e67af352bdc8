use Rattle.vg_followed.proofs.Multiplying.{takes_multiplies}
use Rattle.vg_followed.proofs.bytes.products_are_made.Goals as goal

pub returns : goal.returns
returns c = λ e i ok m frames. takes_multiplies i ok m frames e ⊥
