use Rattle.vg_live_named.proofs.Forth.{rule_forth}
use Rattle.vg_live_named.proofs.laws.reasons_carry_over.Goals as goal

pub returns : goal.returns
returns c = λ n p tell good h typed y k from also rule a. rule_forth n p tell good h typed.0 typed.1 y k from also rule a
