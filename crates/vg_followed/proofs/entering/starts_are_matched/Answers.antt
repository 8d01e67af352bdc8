use Rattle.vg_followed.proofs.Beginning.{goes_start}
use Rattle.vg_followed.proofs.entering.starts_are_matched.Goals as goal

pub returns : goal.returns
returns c = λ e x p st m there none a b v s vectors one columns stack at. goes_start e x p st _ m there none a b v s vectors one columns stack (λ full. full) at
