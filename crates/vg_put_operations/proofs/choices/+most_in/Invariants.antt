use Rattle.std.proofs.Common.{length}
use Rattle.vg_put_operations.proofs.choices.+most_in.Given as goal

abbrev pub decreases-most_in : goal.decreases-most_in
decreases-most_in l = length l.cases.now
