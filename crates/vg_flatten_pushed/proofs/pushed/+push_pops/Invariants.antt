use Rattle.vg_flatten_pushed.proofs.pushed.+push_pops.Given as goal

abbrev pub decreases-push_pops : goal.decreases-push_pops
decreases-push_pops l = l.count
