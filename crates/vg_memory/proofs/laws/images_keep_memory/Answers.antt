use Rattle.vg_memory.proofs.Keeping.{keeps}
use Rattle.vg_memory.proofs.laws.images_keep_memory.Goals as goal

pub returns : goal.returns
returns g n p text named good h typed e extra costs idle lets does = keeps n p text named good h typed e extra costs idle lets does
