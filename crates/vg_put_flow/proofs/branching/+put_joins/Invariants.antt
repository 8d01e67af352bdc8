use Rattle.std.proofs.Common.{length}
use Rattle.vg_put_flow.proofs.branching.+put_joins.Given as goal

abbrev pub decreases-put_joins : goal.decreases-put_joins
decreases-put_joins l = length l.registers.now
