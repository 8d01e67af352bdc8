use Rattle.std.proofs.Common.{length}
use Rattle.vg_lin_states.proofs.program.+procedure_for.Given as goal

abbrev pub decreases-procedure_for : goal.decreases-procedure_for
decreases-procedure_for l = length l.cases.now
