use Rattle.vg_templates.proofs.Ranging.{plain_code-fine}
use Rattle.vg_templates.proofs.ranged.templates_can_be_spelled.Goals as goal

pub returns : goal.returns
returns c = plain_code-fine
