use Rattle.std.proofs.Common.{length}
use Rattle.vg_lin_machine.proofs.calls.+same_widths.Given as goal

abbrev pub decreases-same_widths : goal.decreases-same_widths
decreases-same_widths l = length l.arguments.now
