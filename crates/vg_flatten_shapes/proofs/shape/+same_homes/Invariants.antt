use Rattle.std.proofs.Common.{length}
use Rattle.vg_flatten_shapes.proofs.shape.+same_homes.Given as goal

abbrev pub decreases-same_homes : goal.decreases-same_homes
decreases-same_homes l = length l.first.now
