use Rattle.vg_templates.proofs.Holding.{takes_brings}
use Rattle.vg_templates.proofs.locals.operands_come.Goals as goal

pub returns : goal.returns
returns c = λ e i ok m frames. takes_brings i ok m frames e ⊥
