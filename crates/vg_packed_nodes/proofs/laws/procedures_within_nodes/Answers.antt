use Rattle.vg_packed_nodes.proofs.Procedures.{within_nodes}
use Rattle.vg_packed_nodes.proofs.laws.procedures_within_nodes.Goals as goal

pub returns : goal.returns
returns c = within_nodes c.numbers_are_places.ensures.numbers c.sizes_within_nodes.ensures c.packing_keeps_size.ensures
