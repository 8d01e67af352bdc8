use Rattle.std.proofs.Common.{length}
use Rattle.vg_trim_pairs.proofs.worked.+all_stay_worked.Given as goal

abbrev pub decreases-all_stay_worked : goal.decreases-all_stay_worked
decreases-all_stay_worked l = length l.behind.now
