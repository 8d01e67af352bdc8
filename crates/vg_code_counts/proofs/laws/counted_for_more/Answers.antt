use Rattle.vg_code_counts.proofs.More.{counted_more}
use Rattle.vg_code_counts.proofs.laws.counted_for_more.Goals as goal

pub returns : goal.returns
returns g c = counted_more
