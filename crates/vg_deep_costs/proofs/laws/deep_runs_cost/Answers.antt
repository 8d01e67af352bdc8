use Rattle.vg_deep_costs.proofs.Counting.{deep_costs}
use Rattle.vg_deep_costs.proofs.laws.deep_runs_cost.Goals as goal

pub returns : goal.returns
returns c = λ e x p extra cs st b has n reads interrupts unpushed legal deep. deep_costs e x p extra cs st b has n reads interrupts unpushed legal deep
