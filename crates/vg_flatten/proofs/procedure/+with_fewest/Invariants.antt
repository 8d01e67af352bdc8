use Rattle.std.proofs.Common.{◌-◌}
use Rattle.vg_flatten.proofs.procedure.+with_fewest.Given as goal

abbrev pub decreases-with_fewest : goal.decreases-with_fewest
decreases-with_fewest l = l.high - l.low
