use Rattle.vg_pairs.proofs.RowLists.{code_of_arms}
use Rattle.vg_pairs.proofs.rows.arms_of.Goals as goal

pub returns-clause-code : goal.returns-clause-code
returns-clause-code c = code_of_arms c.args.codes c.args.last
