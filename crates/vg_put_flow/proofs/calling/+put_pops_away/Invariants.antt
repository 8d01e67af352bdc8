use Rattle.vg_put_flow.proofs.calling.+put_pops_away.Given as goal

abbrev pub decreases-put_pops_away : goal.decreases-put_pops_away
decreases-put_pops_away l = l.bytes
