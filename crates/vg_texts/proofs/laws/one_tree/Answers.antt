use Rattle.vg_texts.proofs.Values.{some_tree, one_tree}
use Rattle.vg_texts.proofs.laws.one_tree.Goals as goal

pub returns-clause-some : goal.returns-clause-some
returns-clause-some c = some_tree

pub returns-clause-one : goal.returns-clause-one
returns-clause-one c = one_tree
