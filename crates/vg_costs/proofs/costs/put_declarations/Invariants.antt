use Rattle.std.proofs.Common.{drop}
use Rattle.vg_tree.specs.Held.{node_at, row_at}
use Rattle.vg_costs.specs.Walked.{costs_in}
use Rattle.vg_costs.proofs.Costing.{Costing}
use Rattle.vg_costs.proofs.costs.put_declarations.Given as goal

abbrev pub invariant-each : goal.invariant-each
invariant-each l = Costing costs_in (λ texts. node_at texts l.fn.declarations) (λ texts. row_at texts (drop l.node-index l.nodes)) l.fn.row l.row
