use Rattle.std.proofs.Common.{length}
use Rattle.vg_alloc.proofs.seats.+put_seats.Given as goal

abbrev pub decreases-put_seats : goal.decreases-put_seats
decreases-put_seats l = length l.widths.now
