use Rattle.std.proofs.Common.{length}
use Rattle.vg_trim_pairs.proofs.worked.+is_worked.Given as goal

abbrev pub decreases-is_worked : goal.decreases-is_worked
decreases-is_worked l = length l.worked.now
