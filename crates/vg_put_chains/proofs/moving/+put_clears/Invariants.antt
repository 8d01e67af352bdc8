use Rattle.vg_put_chains.proofs.moving.+put_clears.Given as goal

abbrev pub decreases-put_clears : goal.decreases-put_clears
decreases-put_clears l = l.count
