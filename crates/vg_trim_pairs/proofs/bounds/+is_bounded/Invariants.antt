use Rattle.std.proofs.Common.{length}
use Rattle.vg_trim_pairs.proofs.bounds.+is_bounded.Given as goal

abbrev pub decreases-is_bounded : goal.decreases-is_bounded
decreases-is_bounded l = length l.bounds.now
