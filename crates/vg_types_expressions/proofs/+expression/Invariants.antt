use Rattle.std.proofs.Common.{◌+◌, ◌*◌, drop}
use Rattle.vg_syntax.specs.Numbering.{count_nodes}
use Rattle.vg_tree.specs.Held.{node_at, row_at}
use Rattle.vg_types_expressions.specs.Arguments.{Arguing}
use Rattle.vg_types_expressions.specs.Links.{Linking}
use Rattle.vg_types_expressions.proofs.+expression.Given as goal

abbrev pub decreases-whole::primary : goal.decreases-whole::primary
decreases-whole::primary l = 8 * count_nodes (node_at l.names.now l.node.now) + 1

abbrev pub decreases-whole::plain : goal.decreases-whole::plain
decreases-whole::plain l = 8 * count_nodes (node_at l.names.now l.node.now)

abbrev pub decreases-whole::new_object : goal.decreases-whole::new_object
decreases-whole::new_object l = 8 * count_nodes (node_at l.names.now l.args.now) + 5

abbrev pub decreases-whole::new_array : goal.decreases-whole::new_array
decreases-whole::new_array l = 8 * count_nodes (node_at l.names.now l.size.now) + 4

abbrev pub decreases-argued::arguments : goal.decreases-argued::arguments
decreases-argued::arguments l = 8 * count_nodes (node_at l.names.now l.node.now) + 4

abbrev pub decreases-argued::argument_row : goal.decreases-argued::argument_row
decreases-argued::argument_row l = 8 * count_nodes (row_at l.names.now l.nodes.now) + 3

abbrev pub decreases-whole::expression : goal.decreases-whole::expression
decreases-whole::expression l = 8 * count_nodes (node_at l.names.now l.node.now) + 2

abbrev pub decreases-whole::postfix : goal.decreases-whole::postfix
decreases-whole::postfix l = 8 * (count_nodes (node_at l.names.now l.first.now) + count_nodes (node_at l.names.now l.suffixes.now)) + 4

abbrev pub decreases-whole::operand : goal.decreases-whole::operand
decreases-whole::operand l = 8 * count_nodes (node_at l.names.now l.first.now) + 2

abbrev pub decreases-whole::operator_chain : goal.decreases-whole::operator_chain
decreases-whole::operator_chain l = 8 * (count_nodes (node_at l.names.now l.first.now) + count_nodes (node_at l.names.now l.parts.now)) + 4

abbrev pub decreases-whole::links : goal.decreases-whole::links
decreases-whole::links l = 8 * count_nodes (node_at l.names.now l.row.now) + 3

abbrev pub decreases-whole::link_row : goal.decreases-whole::link_row
decreases-whole::link_row l = 8 * count_nodes (row_at l.names.now l.nodes.now) + 2

abbrev pub decreases-whole::front_links : goal.decreases-whole::front_links
decreases-whole::front_links l = 8 * count_nodes (row_at l.names.now l.nodes.now) + 1

abbrev pub decreases-whole::link : goal.decreases-whole::link
decreases-whole::link l = 8 * count_nodes (node_at l.names.now l.node.now)

abbrev pub decreases-whole::index_behind : goal.decreases-whole::index_behind
decreases-whole::index_behind l = 8 * count_nodes (node_at l.names.now l.index.now) + 4

abbrev pub decreases-whole::call_behind : goal.decreases-whole::call_behind
decreases-whole::call_behind l = 8 * count_nodes (node_at l.names.now l.args.now) + 5

abbrev pub decreases-whole::part_behind : goal.decreases-whole::part_behind
decreases-whole::part_behind l = 8 * count_nodes (node_at l.names.now l.operand.now) + 4

abbrev pub decreases-whole::unary : goal.decreases-whole::unary
decreases-whole::unary l = 8 * count_nodes (node_at l.names.now l.operand.now) + 4

abbrev pub invariant-whole::front_links-each : goal.invariant-whole::front_links-each
invariant-whole::front_links-each l =
    Linking l.fn.names l.fn.root l.fn.declared l.fn.body l.fn.locals l.fn.head l.fn.id (row_at l.fn.names l.nodes) l.codes.items l.so_far l.next
    (row_at l.fn.names (drop l.index l.nodes))

abbrev pub invariant-argued::argument_row-each : goal.invariant-argued::argument_row-each
invariant-argued::argument_row-each l =
    Arguing l.fn.names l.fn.root l.fn.declared l.fn.body l.fn.locals l.params l.fn.id (row_at l.fn.names l.nodes) l.codes.items l.fitting l.next l.index
    (row_at l.fn.names (drop l.index l.nodes))
