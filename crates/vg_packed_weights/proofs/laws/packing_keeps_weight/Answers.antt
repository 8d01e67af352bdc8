use Rattle.vg_packed_weights.proofs.Moved.{packed_weight}
use Rattle.vg_packed_weights.proofs.laws.packing_keeps_weight.Goals as goal

pub returns : goal.returns
returns c = packed_weight
