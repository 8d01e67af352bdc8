use Rattle.std.proofs.Common.{length}
use Rattle.vg_put_chains.proofs.combining.+put_ands.Given as goal

abbrev pub decreases-put_ands : goal.decreases-put_ands
decreases-put_ands l = length l.right.now
