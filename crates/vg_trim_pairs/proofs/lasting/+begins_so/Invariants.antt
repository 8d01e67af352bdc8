use Rattle.std.proofs.Common.{length}
use Rattle.vg_trim_pairs.proofs.lasting.+begins_so.Given as goal

abbrev pub decreases-begins_so : goal.decreases-begins_so
decreases-begins_so l = length l.twins.now
