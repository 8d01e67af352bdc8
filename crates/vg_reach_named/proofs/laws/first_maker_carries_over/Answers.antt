use Rattle.vg_reach_named.proofs.Making.{first_maker}
use Rattle.vg_reach_named.proofs.laws.first_maker_carries_over.Goals as goal

pub returns : goal.returns
returns c = λ n p tell good h typed a maker. first_maker n p tell good h typed.0 typed.1 a maker
