use Rattle.vg_why_named.proofs.Asking.{method_declared}
use Rattle.vg_why_named.proofs.laws.method_declared.Goals as goal

pub returns : goal.returns
returns c = λ n p tell good m l. method_declared n p tell good m l
