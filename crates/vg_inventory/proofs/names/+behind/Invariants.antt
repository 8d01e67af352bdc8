use Rattle.std.proofs.Common.{length}
use Rattle.vg_inventory.proofs.names.+behind.Given as goal

abbrev pub decreases-behind : goal.decreases-behind
decreases-behind l = length l.text.now
