use Rattle.vg_packed_calls.proofs.Moved.{same_calls}
use Rattle.vg_packed_calls.proofs.laws.packing_keeps_calls.Goals as goal

pub returns : goal.returns
returns c = same_calls
