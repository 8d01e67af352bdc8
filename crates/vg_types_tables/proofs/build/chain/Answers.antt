use Rattle.vg_types_tables.proofs.Rows.{code_of_chain}
use Rattle.vg_types_tables.proofs.build.chain.Goals as goal

pub returns : goal.returns
returns c = code_of_chain c.args.codes
