use Rattle.std.proofs.Common.{◌+◌, sym, ap, subst}
use Rattle.vg_tree_walks.proofs.Passing.{left_of}
use Rattle.vg_types_entries.proofs.Finding.{Finding, finding_on, program_found, program_within}
use Rattle.vg_types_entries.proofs.program.program_in.Goals as goal

pub returns-in-Some-clause-found : goal.returns-in-Some-clause-found
returns-in-Some-clause-found c =
    program_found c.args.nodes.now c.each.next c.node-item.result _ _
    (subst (Finding c.args.nodes.now c.each.next)
    (left_of c.args.nodes.now c.each.node-index c.node-item.result c.each-test.true (sym c.node-item.is)) c.each.invariant)
    (λ texts. c.in-Some.ensures texts)

pub returns-in-Some-clause-count : goal.returns-in-Some-clause-count
returns-in-Some-clause-count c =
    program_within c.args.nodes.now c.each.next c.node-item.result c.in-Some.entries.now _
    (subst (Finding c.args.nodes.now c.each.next)
    (left_of c.args.nodes.now c.each.node-index c.node-item.result c.each-test.true (sym c.node-item.is)) c.each.invariant)
    (λ texts. c.in-Some.ensures texts)

pub each-preserved : goal.each-preserved
each-preserved c =
    finding_on c.args.nodes.now c.each.next _ c.node-item.result _
    (subst (Finding c.args.nodes.now c.each.next)
    (left_of c.args.nodes.now c.each.node-index c.node-item.result c.each-test.true (sym c.node-item.is)) c.each.invariant)
    (λ texts. c.in-None.ensures texts)
    (λ texts. ap (λ k. c.each.next + k) (c.count_nodes-next.ensures texts))
