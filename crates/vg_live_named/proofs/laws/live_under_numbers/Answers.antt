use Rattle.vg_live_named.proofs.Whole.{live_back}
use Rattle.vg_live_named.proofs.laws.live_under_numbers.Goals as goal

pub returns : goal.returns
returns c = λ n p tell good h typed z a. live_back n p tell good h typed.0 typed.1 z a
