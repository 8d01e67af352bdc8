use Rattle.vg_put_operations.proofs.shifts.+put_halves.Given as goal

abbrev pub decreases-put_halves : goal.decreases-put_halves
decreases-put_halves l = l.count
