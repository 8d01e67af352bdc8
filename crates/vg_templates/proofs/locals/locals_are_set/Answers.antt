use Rattle.vg_templates.proofs.Holding.{takes_gives}
use Rattle.vg_templates.proofs.locals.locals_are_set.Goals as goal

pub returns : goal.returns
returns c = λ e i ok m frames. takes_gives i ok m frames e ⊥
