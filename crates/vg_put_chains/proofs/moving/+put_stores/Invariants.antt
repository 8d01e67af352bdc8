use Rattle.vg_put_chains.proofs.moving.+put_stores.Given as goal

abbrev pub decreases-put_stores : goal.decreases-put_stores
decreases-put_stores l = l.width
