use Rattle.std.proofs.Common.{length}
use Rattle.vg_alloc.proofs.framing.+put_parameters.Given as goal

abbrev pub decreases-put_parameters : goal.decreases-put_parameters
decreases-put_parameters l = length l.widths.now
