use Rattle.std.proofs.Common.{length}
use Rattle.vg_trim_pairs.proofs.worked.+found_for.Given as goal

abbrev pub decreases-found_for : goal.decreases-found_for
decreases-found_for l = length l.worked.now
