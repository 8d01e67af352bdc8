use Rattle.vg_expand.proofs.Simulated.{runs_same}
use Rattle.vg_expand.proofs.runs.expanded_runs.Goals as goal

pub returns : goal.returns
returns c first p ms all routines closed = runs_same first p ms all routines closed
