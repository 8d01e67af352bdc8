use Rattle.vg_walks.proofs.Walking.{walks}
use Rattle.vg_walks.proofs.laws.active_calls_are_walks.Goals as goal

pub returns : goal.returns
returns g k f all_awake n s t w v why none before e = walks k f all_awake n s t w v why none before e
