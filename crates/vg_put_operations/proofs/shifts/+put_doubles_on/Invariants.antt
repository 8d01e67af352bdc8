use Rattle.vg_put_operations.proofs.shifts.+put_doubles_on.Given as goal

abbrev pub decreases-put_doubles_on : goal.decreases-put_doubles_on
decreases-put_doubles_on l = l.count
