use Rattle.std.proofs.Common.{length}
use Rattle.vg_lin_states.proofs.state.LinState.+passed.Given as goal

abbrev pub decreases-passed : goal.decreases-passed
decreases-passed l = length l.passed.now
