use Rattle.std.proofs.Common.{length}
use Rattle.vg_trim_pairs.proofs.homes.+is_twin.Given as goal

abbrev pub decreases-is_twin : goal.decreases-is_twin
decreases-is_twin l = length l.twins.now
