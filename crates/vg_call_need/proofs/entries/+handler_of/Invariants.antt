use Rattle.std.proofs.Common.{length}
use Rattle.vg_call_need.proofs.entries.+handler_of.Given as goal

abbrev pub decreases-handler_of : goal.decreases-handler_of
decreases-handler_of l = length l.handlers.now
