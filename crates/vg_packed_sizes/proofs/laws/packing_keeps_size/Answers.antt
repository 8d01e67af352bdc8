use Rattle.vg_packed_sizes.proofs.Moved.{packed_size}
use Rattle.vg_packed_sizes.proofs.laws.packing_keeps_size.Goals as goal

pub returns : goal.returns
returns c = packed_size
