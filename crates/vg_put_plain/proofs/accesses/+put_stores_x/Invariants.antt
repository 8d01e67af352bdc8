use Rattle.std.proofs.Common.{length}
use Rattle.vg_put_plain.proofs.accesses.+put_stores_x.Given as goal

abbrev pub decreases-put_stores_x : goal.decreases-put_stores_x
decreases-put_stores_x l = length l.registers.now
