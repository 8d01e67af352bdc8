use Rattle.vg_put_plain.proofs.accesses.+put_loads_at.Given as goal

abbrev pub decreases-put_loads_at : goal.decreases-put_loads_at
decreases-put_loads_at l = l.count
