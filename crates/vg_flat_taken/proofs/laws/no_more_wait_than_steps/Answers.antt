use Rattle.vg_flat_taken.proofs.Whole.{as_steps}
use Rattle.vg_flat_taken.proofs.laws.no_more_wait_than_steps.Goals as goal

pub returns : goal.returns
returns c = as_steps
