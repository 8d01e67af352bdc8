use Rattle.std.proofs.Common.{length}
use Rattle.vg_put_chains.proofs.combining.+put_ors.Given as goal

abbrev pub decreases-put_ors : goal.decreases-put_ors
decreases-put_ors l = length l.right.now
