use Rattle.std.proofs.Common.{length}
use Rattle.vg_types_signatures.proofs.params.+params_differ.Given as goal

abbrev pub decreases-params_differ : goal.decreases-params_differ
decreases-params_differ l = length l.params.now
