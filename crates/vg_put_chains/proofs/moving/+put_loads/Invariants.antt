use Rattle.vg_put_chains.proofs.moving.+put_loads.Given as goal

abbrev pub decreases-put_loads : goal.decreases-put_loads
decreases-put_loads l = l.width
