use Rattle.std.proofs.Common.{length}
use Rattle.vg_trim_pairs.proofs.bounds.+most_known.Given as goal

abbrev pub decreases-most_known : goal.decreases-most_known
decreases-most_known l = length l.bounds.now
