use Rattle.vg_put_chains.proofs.moving.+put_known.Given as goal

abbrev pub decreases-put_known : goal.decreases-put_known
decreases-put_known l = l.count
