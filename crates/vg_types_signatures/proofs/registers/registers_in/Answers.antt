use Rattle.std.proofs.Common.{sym, subst, ap, ◌∙◌, ◌+◌}
use Rattle.vg_types_views.specs.ByText.{added}
use Rattle.vg_tree_walks.proofs.Passing.{left_of}
use Rattle.vg_types_signatures.proofs.Registering.{Registering, kept_is, register_kept, register_broken}
use Rattle.vg_types_signatures.proofs.registers.registers_in.Goals as goal

pub returns-then-not-register_keeps : goal.returns-then-not-register_keeps
returns-then-not-register_keeps c =
    rw c.broken.ensures
    (register_broken c.args.names.now c.args.nodes.now c.args.first c.each.seen c.each.next c.node-item.result _ c.in-Some.register
    (subst (Registering c.args.names.now c.args.nodes.now c.args.first c.each.seen c.each.next)
    (left_of c.args.nodes.now c.each.node-index c.node-item.result c.each-test.true (sym c.node-item.is)) c.each.invariant)
    c.in-Some.ensures
    (kept_is _ _ _ _ _ _ _ c.each.seen c.register_keeps.ensures c.text_of-in-each.ensures c.in_ok-new.ensures.new c.text_of.ensures
    c.if-not-register_keeps.true))

pub each-preserved : goal.each-preserved
each-preserved c =
    register_kept c.args.names.now c.args.nodes.now c.args.first c.each.seen c.add.new.self c.each.next _ c.node-item.result _ c.in-Some.register
    (subst (Registering c.args.names.now c.args.nodes.now c.args.first c.each.seen c.each.next)
    (left_of c.args.nodes.now c.each.node-index c.node-item.result c.each-test.true (sym c.node-item.is)) c.each.invariant)
    c.in-Some.ensures
    (kept_is _ _ _ _ _ _ _ c.each.seen c.register_keeps.ensures c.text_of-in-each.ensures c.in_ok-new.ensures.new c.text_of.ensures
    c.if-not-register_keeps.false)
    (c.in_ok-new.ensures.added ∙ ap (λ t. added t tt c.each.seen) c.text_of.ensures)
    (λ ts. ap (λ k. c.each.next + k) (c.count_nodes-next.ensures ts))
