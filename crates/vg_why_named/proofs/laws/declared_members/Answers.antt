use Rattle.vg_why_named.proofs.Asking.{declared_member}
use Rattle.vg_why_named.proofs.laws.declared_members.Goals as goal

pub returns : goal.returns
returns c = λ n p tell good d x z e. declared_member n p tell good d x z e
