use Rattle.vg_types_tables.proofs.OneClass.{one_type}
use Rattle.vg_types_tables.proofs.laws.one_type.Goals as goal

pub returns : goal.returns
returns c = λ texts root d t u h k l e. one_type texts root d h t u k l e
