use Rattle.std.proofs.Common.{length}
use Rattle.vg_put_chains.proofs.summing.+put_subtracts_on.Given as goal

abbrev pub decreases-put_subtracts_on : goal.decreases-put_subtracts_on
decreases-put_subtracts_on l = length l.right.now
