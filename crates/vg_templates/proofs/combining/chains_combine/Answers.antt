use Rattle.vg_templates.proofs.Logic.{ands-compute, ors-compute, eors-compute}
use Rattle.vg_templates.proofs.combining.chains_combine.Goals as goal

pub returns-clause-and : goal.returns-clause-and
returns-clause-and c = λ flash low high d right g chip. ands-compute flash low high chip d right g

pub returns-clause-or : goal.returns-clause-or
returns-clause-or c = λ flash low high d right g chip. ors-compute flash low high chip d right g

pub returns-clause-eor : goal.returns-clause-eor
returns-clause-eor c = λ flash low high d right g chip. eors-compute flash low high chip d right g
