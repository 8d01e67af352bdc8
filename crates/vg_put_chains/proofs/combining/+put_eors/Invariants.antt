use Rattle.std.proofs.Common.{length}
use Rattle.vg_put_chains.proofs.combining.+put_eors.Given as goal

abbrev pub decreases-put_eors : goal.decreases-put_eors
decreases-put_eors l = length l.right.now
