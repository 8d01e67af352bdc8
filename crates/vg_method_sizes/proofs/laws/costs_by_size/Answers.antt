use Rattle.vg_method_sizes.proofs.Costs.{costs_sized}
use Rattle.vg_method_sizes.proofs.laws.costs_by_size.Goals as goal

pub returns : goal.returns
returns c = costs_sized
