use Rattle.std.proofs.Common.{length}
use Rattle.vg_flatten_shapes.proofs.shape.+is_free.Given as goal

abbrev pub decreases-is_free : goal.decreases-is_free
decreases-is_free l = length l.homes.now
