use Rattle.vg_deep_stacks.proofs.Passing.{deep_passes}
use Rattle.vg_deep_stacks.proofs.laws.deep_runs_pass.Goals as goal

pub returns : goal.returns
returns c = λ e x p most n reads interrupts sound waits deep. deep_passes e x p most sound n reads interrupts waits deep
