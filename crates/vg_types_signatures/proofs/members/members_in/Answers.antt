use Rattle.std.proofs.Common.{sym, subst, ap, ◌+◌}
use Rattle.vg_tree_walks.proofs.Passing.{left_of}
use Rattle.vg_types_classes.specs.Classes.{declarations_in}
use Rattle.vg_types_signatures.specs.Asked.{home_view}
use Rattle.vg_types_signatures.proofs.Membering.{Membering, member_kept, member_broken}
use Rattle.vg_types_signatures.proofs.members.members_in.Goals as goal

pub returns-in-Some-broken_rule : goal.returns-in-Some-broken_rule
returns-in-Some-broken_rule c =
    rw c.broken.ensures
    (member_broken (declarations_in c.args.names.now c.args.nodes.now) (home_view c.args.home) c.args.names.now c.args.members.now c.args.first c.each.passed
    c.each.next c.member-item.result _ c.in-Some.asked c.in-Some-broken_rule.rule
    (subst (Membering (declarations_in c.args.names.now c.args.nodes.now) (home_view c.args.home) c.args.names.now c.args.members.now c.args.first
    c.each.passed c.each.next)
    (left_of c.args.members.now c.each.member-index c.member-item.result c.each-test.true (sym c.member-item.is)) c.each.invariant)
    c.in-Some.ensures c.in-Some-broken_rule.ensures)

pub each-preserved : goal.each-preserved
each-preserved c =
    member_kept (declarations_in c.args.names.now c.args.nodes.now) (home_view c.args.home) c.args.names.now c.args.members.now c.args.first c.each.passed
    c.pass.new.passed c.each.next _ c.member-item.result _ c.in-Some.asked
    (subst (Membering (declarations_in c.args.names.now c.args.nodes.now) (home_view c.args.home) c.args.names.now c.args.members.now c.args.first
    c.each.passed c.each.next)
    (left_of c.args.members.now c.each.member-index c.member-item.result c.each-test.true (sym c.member-item.is)) c.each.invariant)
    c.in-Some.ensures c.in-None-broken_rule.ensures c.in_ok-pass.ensures
    (λ ts. ap (λ k. c.each.next + k) (c.count_nodes-next.ensures ts))
