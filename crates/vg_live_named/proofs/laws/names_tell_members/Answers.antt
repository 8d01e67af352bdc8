use Rattle.vg_live_named.proofs.Whole.{one_member}
use Rattle.vg_live_named.proofs.laws.names_tell_members.Goals as goal

pub returns : goal.returns
returns c = λ n p tell h x y a b e. one_member n p tell h x y a b e
