use Rattle.std.proofs.Common.{◌+◌, [], sym, ap, subst}
use Rattle.vg_syntax.specs.Numbering.{count_nodes, numbered}
use Rattle.vg_tree.specs.Held.{row_at}
use Rattle.vg_tree_walks.proofs.Passing.{left_of}
use Rattle.vg_types_tables.specs.Views.{declarations_at}
use Rattle.vg_types_entries.proofs.Keys.{Entering, entry_done}
use Rattle.vg_types_entries.proofs.program.entries_in.Goals as goal

pub each-preserved : goal.each-preserved
each-preserved c =
    entry_done c.args.names.now c.args.declared.now (declarations_at c.args.names.now c.args.root.now)
    (numbered (c.args.id + 1) (row_at c.args.names.now c.args.all.now)) (c.args.id + 1 + count_nodes (row_at [] c.args.all.now))
    c.each.passed c.pass.new.passed c.each.next _ c.node-item.result _ c.in-Some.entry c.in-Some-entered.method
    c.text_of.result.now c.text_of-in-each.result.now c.text_of-in-each-2.result.now
    c.text_of.ensures c.text_of-in-each.ensures c.text_of-in-each-2.ensures
    (subst (Entering c.args.names.now c.args.declared.now (declarations_at c.args.names.now c.args.root.now)
    (numbered (c.args.id + 1) (row_at c.args.names.now c.args.all.now)) (c.args.id + 1 + count_nodes (row_at [] c.args.all.now)) c.each.passed c.each.next)
    (left_of c.args.all.now c.each.node-index c.node-item.result c.each-test.true (sym c.node-item.is)) c.each.invariant)
    c.in-Some.ensures c.in-Some-entered.ensures.some c.in-Some-entered.ensures.entered c.in_ok-pass.ensures
    (λ texts. ap (λ k. c.each.next + k) (c.count_nodes-next.ensures texts))
