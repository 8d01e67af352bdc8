use Rattle.std.proofs.Common.{length}
use Rattle.vg_put_operations.proofs.lookups.+put_tries_unusual.Given as goal

abbrev pub decreases-put_tries_unusual : goal.decreases-put_tries_unusual
decreases-put_tries_unusual l = length l.cases.now
