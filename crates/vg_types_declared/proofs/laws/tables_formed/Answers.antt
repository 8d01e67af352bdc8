use Rattle.vg_types_declared.proofs.Forming.{formed}
use Rattle.vg_types_declared.proofs.laws.tables_formed.Goals as goal

pub returns : goal.returns
returns c = formed
