use Rattle.vg_put_chains.proofs.summing.+put_takes_known_on.Given as goal

abbrev pub decreases-put_takes_known_on : goal.decreases-put_takes_known_on
decreases-put_takes_known_on l = l.count
