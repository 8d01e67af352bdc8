use Rattle.std.proofs.Common.{length}
use Rattle.vg_trim_pairs.proofs.lasting.+all_stay_bounded.Given as goal

abbrev pub decreases-all_stay_bounded : goal.decreases-all_stay_bounded
decreases-all_stay_bounded l = length l.behind.now
