use Rattle.vg_templates.proofs.Copying.{starts}
use Rattle.vg_templates.proofs.starting.images_start.Goals as goal

pub returns : goal.returns
returns c = λ e. starts e ⊥
