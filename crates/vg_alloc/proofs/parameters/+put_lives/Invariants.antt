use Rattle.vg_alloc.proofs.parameters.+put_lives.Given as goal

abbrev pub decreases-put_lives : goal.decreases-put_lives
decreases-put_lives l = l.count
