use Rattle.vg_source_weights.proofs.Methods.{methods_light}
use Rattle.vg_source_weights.proofs.laws.weights_within_nodes.Goals as goal

pub returns : goal.returns
returns c = methods_light c.sizes_within_nodes.ensures
