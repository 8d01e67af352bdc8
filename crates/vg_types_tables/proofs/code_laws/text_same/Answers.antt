use Rattle.vg_types_tables.proofs.Rowing.{text_same}
use Rattle.vg_types_tables.proofs.code_laws.text_same.Goals as goal

pub returns : goal.returns
returns c = text_same
