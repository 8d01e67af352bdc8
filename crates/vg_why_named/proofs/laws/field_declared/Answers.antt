use Rattle.vg_why_named.proofs.Asking.{field_declared}
use Rattle.vg_why_named.proofs.laws.field_declared.Goals as goal

pub returns : goal.returns
returns c = λ texts p tell good f declared none. field_declared texts p tell good f declared none
