use Rattle.std.proofs.Common.{◌+◌, drop, sym, ap, subst}
use Rattle.vg_tree_walks.proofs.Passing.{left_of}
use Rattle.vg_types_routines.proofs.Walking.{Going, going_on, going_ends, drop_end}
use Rattle.vg_types_routines.proofs.members.walk_row.Goals as goal

pub each-preserved : goal.each-preserved
each-preserved c =
    going_on c.args.names.now c.args.root.now c.args.declared.now c.args.owner c.args.above c.args.methods.items c.args.members.now c.args.first
    c.each.next _ c.member-item.result (drop (c.each.member-index + 1) c.args.members.now) c.each.walked c.in-Ok.walked
    (subst (λ z. Going c.args.names.now c.args.root.now c.args.declared.now c.args.owner c.args.above c.args.methods.items c.args.members.now c.args.first
    c.each.next z c.each.walked)
    (left_of c.args.members.now c.each.member-index c.member-item.result c.each-test.true (sym c.member-item.is)) c.each.invariant)
    c.in-Ok.ensures.0 c.in-Ok.ensures.1 (ap (λ z. c.each.next + z) c.extent-next.ensures)

pub returns : goal.returns
returns c =
    going_ends c.args.names.now c.args.root.now c.args.declared.now c.args.owner c.args.above c.args.methods.items c.args.members.now c.args.first
    c.each.next c.each.walked
    (subst (λ z. Going c.args.names.now c.args.root.now c.args.declared.now c.args.owner c.args.above c.args.methods.items c.args.members.now c.args.first
    c.each.next z c.each.walked) (drop_end c.args.members.now c.each.member-index c.each-test.false) c.each.invariant)
