use Rattle.std.proofs.Common.{length}
use Rattle.vg_trim_pairs.proofs.walking.+bounded_over.Given as goal

abbrev pub decreases-bounded_over : goal.decreases-bounded_over
decreases-bounded_over l = length l.behind.now
