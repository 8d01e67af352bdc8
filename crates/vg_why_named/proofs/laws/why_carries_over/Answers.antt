use Rattle.vg_why_named.proofs.Chains.{why_over}
use Rattle.vg_why_named.proofs.laws.why_carries_over.Goals as goal

pub returns : goal.returns
returns c = λ texts p tell good h typed s set y there lines why. why_over texts p tell good h typed.0 typed.1 s set y lines there why
