use Rattle.vg_types_tables.proofs.Rows.{code_of_row}
use Rattle.vg_types_tables.proofs.build.row.Goals as goal

pub returns : goal.returns
returns c = code_of_row c.args.codes
