use Rattle.vg_put_operations.proofs.shifts.+put_all_doubles.Given as goal

abbrev pub decreases-put_all_doubles : goal.decreases-put_all_doubles
decreases-put_all_doubles l = l.times
