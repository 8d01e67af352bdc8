use Rattle.vg_select.proofs.computing.+put_pops_from.Given as goal

abbrev pub decreases-put_pops_from : goal.decreases-put_pops_from
decreases-put_pops_from l = l.count
