use Rattle.vg_followed.proofs.Joining.{goes_plain}
use Rattle.vg_followed.proofs.leading.plain_templates_lead.Goals as goal

pub returns : goal.returns
returns c = λ e i ok m frames p tables live behind q s next o v pc t made can front k stand room some a.
    goes_plain i ok m frames e _ p tables live behind q s next o v pc t made can front (λ full. full) k stand room some a
