use Rattle.vg_templates.proofs.Joining.{takes_plain_code}
use Rattle.vg_templates.proofs.steps.plain_code_follows.Goals as goal

pub returns : goal.returns
returns c = λ e i ok m frames p live behind q s next o v made can front k.
    takes_plain_code i ok m frames e _ p live behind q s next o v made can front (λ full. full) k
