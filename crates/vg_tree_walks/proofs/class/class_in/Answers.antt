use Rattle.std.proofs.Common.{◌+◌, sym, subst, ap, ◌∙◌}
use Rattle.vg_syntax.specs.Numbering.{count_nodes}
use Rattle.vg_tree.specs.Held.{text_at, node_at}
use Rattle.vg_tree_walks.proofs.Passing.{left_of}
use Rattle.vg_tree_walks.proofs.Classes.{Seeking, seeking_starts, seeking_here, seeking_on, no_row}
use Rattle.vg_tree_walks.proofs.class.class_in.Goals as goal

pub loop-declaration-init : goal.loop-declaration-init
loop-declaration-init c = seeking_starts _ _ _ c.in-Some.ensures.nodes

pub loop-declaration-preserved : goal.loop-declaration-preserved
loop-declaration-preserved c =
    seeking_on c.args.name c.args.declarations.now c.declaration-item.result _ c.loop-declaration.next _
    (subst (λ l. Seeking c.args.name c.args.declarations.now l c.loop-declaration.next)
    (left_of c.in-Some.row.now c.loop-declaration.declaration-index c.declaration-item.result c.loop-declaration-test.true (sym c.declaration-item.is))
    c.loop-declaration.invariant)
    (sym c.is_class.ensures ∙ c.if-is_class.false)
    (c.pass-next.ensures.next ∙ ap (λ i. i + count_nodes (node_at _ c.declaration-item.result)) c.walk_from.ensures.next)

pub returns-then-is_class : goal.returns-then-is_class
returns-then-is_class c =
    seeking_here c.args.name c.args.declarations.now c.declaration-item.result _ c.loop-declaration.next
    (subst (λ l. Seeking c.args.name c.args.declarations.now l c.loop-declaration.next)
    (left_of c.in-Some.row.now c.loop-declaration.declaration-index c.declaration-item.result c.loop-declaration-test.true (sym c.declaration-item.is))
    c.loop-declaration.invariant)
    (sym c.is_class.ensures ∙ c.if-is_class.true)

pub returns-in-None : goal.returns-in-None
returns-in-None c texts only = sym (no_row texts (text_at texts c.args.name) 1 c.args.declarations.now (sym c.in-None.ensures.some))
