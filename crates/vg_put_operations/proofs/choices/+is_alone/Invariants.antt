use Rattle.std.proofs.Common.{length}
use Rattle.vg_put_operations.proofs.choices.+is_alone.Given as goal

abbrev pub decreases-is_alone : goal.decreases-is_alone
decreases-is_alone l = length l.cases.now
