use Rattle.vg_pairs.proofs.RowLists.{code_of_chain}
use Rattle.vg_pairs.proofs.rows.chain_of.Goals as goal

pub returns-clause-code : goal.returns-clause-code
returns-clause-code c = code_of_chain c.args.codes
