use Rattle.vg_covered.proofs.Covering.{covered}
use Rattle.vg_covered.proofs.laws.sound_code_is_covered.Goals as goal

pub returns : goal.returns
returns c = λ p m s pc i e f. covered m s pc p i e (s.operands pc i e) f
