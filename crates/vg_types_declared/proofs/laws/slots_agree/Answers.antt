use Rattle.vg_types_declared.proofs.Slotting.{slotted}
use Rattle.vg_types_declared.proofs.laws.slots_agree.Goals as goal

pub returns : goal.returns
returns c = slotted
