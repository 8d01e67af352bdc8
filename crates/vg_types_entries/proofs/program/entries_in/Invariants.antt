use Rattle.std.proofs.Common.{drop, ◌+◌, []}
use Rattle.vg_syntax.specs.Numbering.{count_nodes, numbered}
use Rattle.vg_tree.specs.Held.{row_at}
use Rattle.vg_types_tables.specs.Views.{declarations_at}
use Rattle.vg_types_entries.proofs.Keys.{Entering}
use Rattle.vg_types_entries.proofs.program.entries_in.Given as goal

abbrev pub invariant-each : goal.invariant-each
invariant-each l =
    Entering l.fn.names l.fn.declared (declarations_at l.fn.names l.fn.root) (numbered (l.fn.id + 1) (row_at l.fn.names l.all))
    (l.fn.id + 1 + count_nodes (row_at [] l.all)) l.passed l.next (drop l.node-index l.all)
