use Rattle.vg_types_declared.proofs.Homes.{all_found}
use Rattle.vg_types_declared.proofs.laws.members_agree.Goals as goal

pub returns : goal.returns
returns c = all_found
