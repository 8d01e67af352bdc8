use Rattle.std.proofs.Common.{length}
use Rattle.vg_link.proofs.stubs.+index_in.Given as goal

abbrev pub decreases-index_in : goal.decreases-index_in
decreases-index_in l = length l.list.now
