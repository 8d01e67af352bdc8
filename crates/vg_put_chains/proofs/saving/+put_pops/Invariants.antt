use Rattle.std.proofs.Common.{length}
use Rattle.vg_put_chains.proofs.saving.+put_pops.Given as goal

abbrev pub decreases-put_pops : goal.decreases-put_pops
decreases-put_pops l = length l.registers.now
