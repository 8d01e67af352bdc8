use Rattle.std.proofs.Common.{◌+◌, ◌*◌, drop}
use Rattle.vg_syntax.specs.Numbering.{count_nodes}
use Rattle.vg_tree.specs.Held.{node_at, row_at, arm_row}
use Rattle.vg_types_statements.specs.Arms.{condition_of, block_of}
use Rattle.vg_types_statements.proofs.Rows.{Going}
use Rattle.vg_types_statements.proofs.ArmRows.{GoingArms}
use Rattle.vg_types_statements.proofs.nested.+statement.Given as goal

abbrev pub decreases-statement : goal.decreases-statement
decreases-statement l = 4 * count_nodes (node_at l.names.now l.node.now)

abbrev pub decreases-block_statement : goal.decreases-block_statement
decreases-block_statement l = 4 * count_nodes (row_at l.names.now l.nodes.now) + 2

abbrev pub decreases-statements : goal.decreases-statements
decreases-statements l = 4 * count_nodes (row_at l.names.now l.nodes.now) + 1

abbrev pub decreases-while_statement : goal.decreases-while_statement
decreases-while_statement l = 4 * (count_nodes (node_at l.names.now l.condition.now) + count_nodes (node_at l.names.now l.inner.now)) + 1

abbrev pub decreases-for_statement : goal.decreases-for_statement
decreases-for_statement l =
    4 * (count_nodes (node_at l.names.now l.first.now) + count_nodes (node_at l.names.now l.condition.now) + count_nodes (node_at l.names.now l.next.now)
    + count_nodes (node_at l.names.now l.inner.now)) + 1

abbrev pub decreases-if_statement : goal.decreases-if_statement
decreases-if_statement l = 4 * (count_nodes (arm_row l.names.now l.pairs.now) + count_nodes (node_at l.names.now l.otherwise.now)) + 3

abbrev pub decreases-arms : goal.decreases-arms
decreases-arms l = 4 * count_nodes (arm_row l.names.now l.pairs.now) + 2

abbrev pub decreases-arm : goal.decreases-arm
decreases-arm l = 4 * (count_nodes (condition_of l.names.now l.pair.now) + count_nodes (block_of l.names.now l.pair.now)) + 1

abbrev pub invariant-statements-each : goal.invariant-statements-each
invariant-statements-each l =
    Going l.fn.names l.fn.root l.fn.declared l.fn.body l.fn.locals l.fn.id (row_at l.fn.names l.nodes) l.codes.items l.next l.locals
    (row_at l.fn.names (drop l.node-index l.nodes))

abbrev pub invariant-arms-each : goal.invariant-arms-each
invariant-arms-each l =
    GoingArms l.fn.names l.fn.root l.fn.declared l.fn.body l.fn.locals l.fn.id (arm_row l.fn.names l.pairs) l.codes.items l.holds l.next l.locals
    (arm_row l.fn.names (drop l.pair-index l.pairs))
