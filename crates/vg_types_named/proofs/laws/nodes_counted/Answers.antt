use Rattle.vg_types_named.proofs.Sizes.{nodes_sized}
use Rattle.vg_types_named.proofs.laws.nodes_counted.Goals as goal

pub returns : goal.returns
returns c = nodes_sized
