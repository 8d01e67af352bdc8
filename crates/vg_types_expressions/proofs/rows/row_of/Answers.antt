use Rattle.vg_tree.proofs.RowLists.{row_same}
use Rattle.vg_types_expressions.proofs.rows.row_of.Goals as goal

pub returns-in-Row : goal.returns-in-Row
returns-in-Row c = row_same c.args.node.now c.in-Row.nodes c.as_slice.result.now c.in-Row.is c.as_slice.ensures.value
