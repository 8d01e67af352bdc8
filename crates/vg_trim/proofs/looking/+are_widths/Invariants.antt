use Rattle.std.proofs.Common.{length}
use Rattle.vg_trim.proofs.looking.+are_widths.Given as goal

abbrev pub decreases-are_widths : goal.decreases-are_widths
decreases-are_widths l = length l.widths.now
