use Rattle.std.proofs.Common.{length}
use Rattle.vg_put_chains.proofs.combining.+put_compares_on.Given as goal

abbrev pub decreases-put_compares_on : goal.decreases-put_compares_on
decreases-put_compares_on l = length l.left.now
