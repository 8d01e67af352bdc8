use Rattle.std.proofs.Common.{length}
use Rattle.vg_trim_pairs.proofs.walking.+worked_over.Given as goal

abbrev pub decreases-worked_over : goal.decreases-worked_over
decreases-worked_over l = length l.behind.now
