use Rattle.vg_put_operations.proofs.lookups.+put_loads_z.Given as goal

abbrev pub decreases-put_loads_z : goal.decreases-put_loads_z
decreases-put_loads_z l = l.count
