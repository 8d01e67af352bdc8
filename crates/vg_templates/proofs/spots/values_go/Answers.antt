use Rattle.vg_templates.proofs.Spotting.{takes_keep}
use Rattle.vg_templates.proofs.spots.values_go.Goals as goal

pub returns : goal.returns
returns c = λ e. takes_keep e ⊥
