use Rattle.vg_memory.proofs.Never.{never}
use Rattle.vg_memory.proofs.laws.images_never_reach.Goals as goal

pub returns : goal.returns
returns g n p text named good h typed e extra costs does holds = never n p text named good h typed e extra costs does holds
