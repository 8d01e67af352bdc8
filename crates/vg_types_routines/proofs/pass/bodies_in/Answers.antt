use Rattle.std.proofs.Common.{◌+◌, drop, sym, ap, subst}
use Rattle.vg_tree_walks.proofs.Passing.{left_of}
use Rattle.vg_types_routines.proofs.Walking.{drop_end}
use Rattle.vg_types_routines.proofs.Gathering.{Gathering, gathering_on, gathering_ends}
use Rattle.vg_types_routines.proofs.pass.bodies_in.Goals as goal

pub each-preserved : goal.each-preserved
each-preserved c =
    gathering_on c.args.names.now c.args.root.now c.args.declared.now c.args.nodes.now c.each.next _ c.node-item.result
    (drop (c.each.node-index + 1) c.args.nodes.now) c.each.bodies c.in-Ok.bodies
    (subst (λ z. Gathering c.args.names.now c.args.root.now c.args.declared.now c.args.nodes.now c.each.next z c.each.bodies)
    (left_of c.args.nodes.now c.each.node-index c.node-item.result c.each-test.true (sym c.node-item.is)) c.each.invariant)
    c.in-Ok.ensures.0 c.in-Ok.ensures.1 (ap (λ z. c.each.next + z) c.extent-next.ensures)

pub returns : goal.returns
returns c =
    gathering_ends c.args.names.now c.args.root.now c.args.declared.now c.args.nodes.now c.each.next c.each.bodies
    (subst (λ z. Gathering c.args.names.now c.args.root.now c.args.declared.now c.args.nodes.now c.each.next z c.each.bodies)
    (drop_end c.args.nodes.now c.each.node-index c.each-test.false) c.each.invariant)
