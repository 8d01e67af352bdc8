use Rattle.std.proofs.Common.{length}
use Rattle.vg_put_chains.proofs.summing.+put_adds_on.Given as goal

abbrev pub decreases-put_adds_on : goal.decreases-put_adds_on
decreases-put_adds_on l = length l.right.now
