use Rattle.vg_tree_walks.specs.Whole.{tree_at}
use Rattle.vg_costs.proofs.Limited.{not_too_many}
use Rattle.vg_costs.proofs.Bounded.{small}
use Rattle.vg_costs.proofs.laws.costs_are_small.Goals as goal

pub returns-clause-few : goal.returns-clause-few
returns-clause-few c = small

pub returns-clause-legal : goal.returns-clause-legal
returns-clause-legal c = λ bytes texts tree short reads legal. small bytes texts tree short reads (not_too_many (tree_at texts tree) legal)
