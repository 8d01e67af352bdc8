use Rattle.std.proofs.Common.{length}
use Rattle.vg_put_flow.proofs.linking.+put_settles.Given as goal

abbrev pub decreases-put_settles : goal.decreases-put_settles
decreases-put_settles l = length l.kept.now
