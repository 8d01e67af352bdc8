use Rattle.vg_finding.proofs.Running.{runs_same}
use Rattle.vg_finding.proofs.laws.found_programs_run_as.Goals as goal

pub returns : goal.returns
returns c = runs_same
