use Rattle.vg_code_bound.proofs.Within.{within}
use Rattle.vg_code_bound.proofs.laws.live_bodies_count.Goals as goal

pub returns : goal.returns
returns c = within
