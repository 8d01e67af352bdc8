use Rattle.vg_reach_named.proofs.Making.{nothing}
use Rattle.vg_reach_named.proofs.laws.nothing_made.Goals as goal

pub returns : goal.returns
returns c = λ n p tell good h typed none. nothing n p tell good h typed.0 typed.1 none
