use Rattle.std.proofs.Common.{length}
use Rattle.vg_trim_pairs.proofs.walking.+filled_over.Given as goal

abbrev pub decreases-filled_over : goal.decreases-filled_over
decreases-filled_over l = length l.behind.now
