use Rattle.vg_put_plain.proofs.accesses.+put_loads_x.Given as goal

abbrev pub decreases-put_loads_x : goal.decreases-put_loads_x
decreases-put_loads_x l = l.count
