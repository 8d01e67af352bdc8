use Rattle.vg_procedure_weights.proofs.Procedures.{within_nodes}
use Rattle.vg_procedure_weights.proofs.laws.procedures_weigh_by_nodes.Goals as goal

pub returns : goal.returns
returns c = within_nodes c.numbers_are_places.ensures.numbers c.weights_within_nodes.ensures c.packing_keeps_weight.ensures
