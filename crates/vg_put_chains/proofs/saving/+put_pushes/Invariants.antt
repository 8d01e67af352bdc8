use Rattle.std.proofs.Common.{length}
use Rattle.vg_put_chains.proofs.saving.+put_pushes.Given as goal

abbrev pub decreases-put_pushes : goal.decreases-put_pushes
decreases-put_pushes l = length l.registers.now
