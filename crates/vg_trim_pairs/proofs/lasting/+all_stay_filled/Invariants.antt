use Rattle.std.proofs.Common.{length}
use Rattle.vg_trim_pairs.proofs.lasting.+all_stay_filled.Given as goal

abbrev pub decreases-all_stay_filled : goal.decreases-all_stay_filled
decreases-all_stay_filled l = length l.behind.now
