use Rattle.vg_pairs.proofs.RowLists.{code_of_row}
use Rattle.vg_pairs.proofs.rows.row_of.Goals as goal

pub returns-clause-code : goal.returns-clause-code
returns-clause-code c = code_of_row c.args.codes
