use Rattle.std.proofs.Common.{length}
use Rattle.vg_trim_pairs.proofs.homes.+is_filled.Given as goal

abbrev pub decreases-is_filled : goal.decreases-is_filled
decreases-is_filled l = length l.filled.now
