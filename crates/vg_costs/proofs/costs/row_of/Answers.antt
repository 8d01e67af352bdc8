use Rattle.vg_tree.proofs.RowLists.{row_same}
use Rattle.vg_costs.proofs.costs.row_of.Goals as goal

pub returns-in-Row-clause-nodes : goal.returns-in-Row-clause-nodes
returns-in-Row-clause-nodes c = row_same c.args.node.now c.in-Row.nodes c.as_slice.result.now c.in-Row.is c.as_slice.ensures.value
