use Rattle.std.proofs.Common.{length}
use Rattle.vg_trim_pairs.proofs.walking.+twins_over.Given as goal

abbrev pub decreases-twins_over : goal.decreases-twins_over
decreases-twins_over l = length l.behind.now
