use Rattle.std.proofs.Common.{length}
use Rattle.vg_flatten_pushed.proofs.pushed.+push_lifts.Given as goal

abbrev pub decreases-push_lifts : goal.decreases-push_lifts
decreases-push_lifts l = length l.news.homes
