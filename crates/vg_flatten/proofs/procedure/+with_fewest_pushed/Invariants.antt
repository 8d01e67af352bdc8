use Rattle.std.proofs.Common.{◌-◌}
use Rattle.vg_flatten.proofs.procedure.+with_fewest_pushed.Given as goal

abbrev pub decreases-with_fewest_pushed : goal.decreases-with_fewest_pushed
decreases-with_fewest_pushed l = l.high - l.low
