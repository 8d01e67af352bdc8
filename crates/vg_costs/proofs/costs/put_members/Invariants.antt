use Rattle.std.proofs.Common.{drop}
use Rattle.vg_tree.specs.Held.{node_at, row_at}
use Rattle.vg_costs.specs.Walked.{costs_of}
use Rattle.vg_costs.proofs.Costing.{Costing}
use Rattle.vg_costs.proofs.costs.put_members.Given as goal

abbrev pub invariant-each : goal.invariant-each
invariant-each l = Costing costs_of (λ texts. node_at texts l.fn.members) (λ texts. row_at texts (drop l.node-index l.nodes)) l.fn.row l.row
