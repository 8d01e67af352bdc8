use Rattle.vg_tree.proofs.RowLists.{row_same}
use Rattle.vg_types_declare.proofs.pass.declare.Goals as goal

pub declare_shaped-requires-clause-row : goal.declare_shaped-requires-clause-row
declare_shaped-requires-clause-row c = row_same c.args.root.now c.in-Row.nodes c.as_slice.result.now c.in-Row.is c.as_slice.ensures.value
