use Rattle.std.proofs.Common.{sym, subst, ap, ◌∙◌, ◌+◌, not, is_some}
use Rattle.vg_tree.specs.Held.{text_at}
use Rattle.vg_tree_walks.proofs.Passing.{left_of}
use Rattle.vg_types_views.specs.ByText.{found, added}
use Rattle.vg_types_names.proofs.Passing.{Passing, named_once}
use Rattle.vg_types_names.proofs.pass.named_in.Goals as goal

pub each-preserved : goal.each-preserved
each-preserved c =
    named_once c.args.names.now c.args.nodes.now c.each.map c.add.new.self c.each.counts c.counted-counts.result c.each.next _
    c.node-item.result _ c.in-Some.found
    (subst (Passing c.args.names.now c.args.nodes.now c.each.map c.each.counts c.each.next)
    (left_of c.args.nodes.now c.each.node-index c.node-item.result c.each-test.true (sym c.node-item.is)) c.each.invariant)
    c.in-Some.ensures
    (sym c.if-not-new.false ∙ c.in_ok-new.ensures.new ∙ ap (λ t. not (is_some (found t c.each.map))) c.text_of.ensures)
    (c.in_ok-new.ensures.added ∙ ap (λ t. added t c.next_declaration.result c.each.map) c.text_of.ensures
    ∙ ap (λ v. added (text_at c.args.names.now c.in-Some.found.name) v c.each.map) c.next_declaration.ensures)
    c.counted-counts.ensures.counts c.counted-counts.ensures.sound
    (λ ts. ap (λ k. c.each.next + k) (c.count_nodes-next.ensures ts))
