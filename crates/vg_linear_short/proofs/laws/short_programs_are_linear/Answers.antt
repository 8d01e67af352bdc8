use Rattle.vg_linear_short.proofs.Programs.{no_cause}
use Rattle.vg_linear_short.proofs.laws.short_programs_are_linear.Goals as goal

pub returns : goal.returns
returns c = no_cause
