use Rattle.std.proofs.Common.{length}
use Rattle.vg_number.proofs.standing.+compared.Given as goal

abbrev pub decreases-compared : goal.decreases-compared
decreases-compared l = length l.class.now
