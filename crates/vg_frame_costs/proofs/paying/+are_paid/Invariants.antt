use Rattle.std.proofs.Common.{length}
use Rattle.vg_frame_costs.proofs.paying.+are_paid.Given as goal

abbrev pub decreases-are_paid : goal.decreases-are_paid
decreases-are_paid l = length l.frames.now
