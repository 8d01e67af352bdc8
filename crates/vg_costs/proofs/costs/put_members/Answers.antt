use Rattle.std.proofs.Common.{sym, subst}
use Rattle.vg_tree.specs.Held.{node_at, row_at}
use Rattle.vg_tree_walks.proofs.Passing.{left_of}
use Rattle.vg_costs.specs.Walked.{costs_of}
use Rattle.vg_costs.proofs.Costing.{Costing, member_put, nothing_more, no_members}
use Rattle.vg_costs.proofs.costs.put_members.Goals as goal

pub returns-in-None : goal.returns-in-None
returns-in-None c = record { costs = λ texts. nothing_more c.args.row.now _ (no_members texts c.args.members.now (sym c.in-None.ensures.some)) }

pub each-preserved : goal.each-preserved
each-preserved c =
    member_put _ _ c.node-item.result _ _ _
    (subst (λ r. Costing costs_of (λ texts. node_at texts c.args.members.now) (λ texts. row_at texts r) c.args.row.now c.each.row)
    (left_of c.in-Some.nodes.now c.each.node-index c.node-item.result c.each-test.true (sym c.node-item.is))
    c.each.invariant)
    c.in_ok-put_member.ensures.costs
