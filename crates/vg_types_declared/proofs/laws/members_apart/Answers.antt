use Rattle.vg_types_declared.proofs.Parting.{parted}
use Rattle.vg_types_declared.proofs.laws.members_apart.Goals as goal

pub returns : goal.returns
returns c = parted
