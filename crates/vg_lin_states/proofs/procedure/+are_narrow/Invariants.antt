use Rattle.std.proofs.Common.{length}
use Rattle.vg_lin_states.proofs.procedure.+are_narrow.Given as goal

abbrev pub decreases-are_narrow : goal.decreases-are_narrow
decreases-are_narrow l = length l.code.now
