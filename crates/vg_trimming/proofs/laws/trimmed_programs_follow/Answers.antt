use Rattle.vg_trimming.proofs.Runs.{runs_same}
use Rattle.vg_trimming.proofs.laws.trimmed_programs_follow.Goals as goal

pub returns : goal.returns
returns c p ms all closed ram tables = runs_same p ms all closed ram tables
