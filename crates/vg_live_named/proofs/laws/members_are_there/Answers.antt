use Rattle.vg_live_named.proofs.There.{there}
use Rattle.vg_live_named.proofs.laws.members_are_there.Goals as goal

pub returns : goal.returns
returns c = λ p h good typed y k from also rule a b. there p h good typed.0 typed.1 y k from also rule a b
