use Rattle.vg_templates.proofs.Finding.{takes_finds}
use Rattle.vg_templates.proofs.operands.operands_are_found.Goals as goal

pub returns : goal.returns
returns c = λ e i ok m frames. takes_finds i ok m frames e ⊥
