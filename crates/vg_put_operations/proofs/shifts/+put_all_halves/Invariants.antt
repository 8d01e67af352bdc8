use Rattle.vg_put_operations.proofs.shifts.+put_all_halves.Given as goal

abbrev pub decreases-put_all_halves : goal.decreases-put_all_halves
decreases-put_all_halves l = l.times
