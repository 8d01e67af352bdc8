use Rattle.std.proofs.Common.{length}
use Rattle.vg_trim_pairs.proofs.lasting.+twins_last.Given as goal

abbrev pub decreases-twins_last : goal.decreases-twins_last
decreases-twins_last l = length l.behind.now
