use Rattle.vg_types_inherited.proofs.Dispatching.{all_override}
use Rattle.vg_types_inherited.proofs.laws.overrides_kept.Goals as goal

pub returns : goal.returns
returns c = all_override
