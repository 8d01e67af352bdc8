use Rattle.vg_flatten_pushed.proofs.pushed.+popped.Given as goal

abbrev pub decreases-popped : goal.decreases-popped
decreases-popped l = l.count
