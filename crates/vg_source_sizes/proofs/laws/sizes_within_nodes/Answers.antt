use Rattle.vg_source_sizes.proofs.Methods.{methods_within}
use Rattle.vg_source_sizes.proofs.laws.sizes_within_nodes.Goals as goal

pub returns : goal.returns
returns c = methods_within
