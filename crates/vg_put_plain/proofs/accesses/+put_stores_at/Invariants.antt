use Rattle.std.proofs.Common.{length}
use Rattle.vg_put_plain.proofs.accesses.+put_stores_at.Given as goal

abbrev pub decreases-put_stores_at : goal.decreases-put_stores_at
decreases-put_stores_at l = length l.registers.now
