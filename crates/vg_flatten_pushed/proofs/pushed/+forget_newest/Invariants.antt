use Rattle.vg_flatten_pushed.proofs.pushed.+forget_newest.Given as goal

abbrev pub decreases-forget_newest : goal.decreases-forget_newest
decreases-forget_newest l = l.count
