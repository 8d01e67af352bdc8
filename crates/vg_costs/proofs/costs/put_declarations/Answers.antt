use Rattle.std.proofs.Common.{[], sym, subst, drop, ◌+◌}
use Rattle.vg_tree.specs.Held.{node_at, row_at}
use Rattle.vg_tree_walks.proofs.Passing.{left_of}
use Rattle.vg_costs.specs.Small.{AreSmall}
use Rattle.vg_costs.specs.Walked.{member_costs, costs_in}
use Rattle.vg_costs.proofs.Costing.{Costing, declaration_put, first_small, nothing_more, no_declarations}
use Rattle.vg_costs.proofs.costs.put_declarations.Goals as goal

pub returns-in-None : goal.returns-in-None
returns-in-None c = record { costs = λ texts. nothing_more c.args.row.now _ (no_declarations texts c.args.declarations.now (sym c.in-None.ensures.some)) }

pub put_declaration-requires : goal.put_declaration-requires
put_declaration-requires c = record {
  small =
      first_small (member_costs (node_at [] c.node-item.result)) (costs_in (row_at [] (drop (c.each.node-index + 1) c.in-Some.nodes.now)))
      (subst (λ r. AreSmall (costs_in (row_at [] r)))
      (left_of c.in-Some.nodes.now c.each.node-index c.node-item.result c.each-test.true (sym c.node-item.is))
      c.each.invariant.small);
}

pub each-preserved : goal.each-preserved
each-preserved c =
    declaration_put _ _ c.node-item.result _ _ _
    (subst (λ r. Costing costs_in (λ texts. node_at texts c.args.declarations.now) (λ texts. row_at texts r) c.args.row.now c.each.row)
    (left_of c.in-Some.nodes.now c.each.node-index c.node-item.result c.each-test.true (sym c.node-item.is))
    c.each.invariant)
    c.in_ok-put_declaration.ensures.costs
