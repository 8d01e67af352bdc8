use Rattle.vg_put_chains.proofs.moving.+put_moves.Given as goal

abbrev pub decreases-put_moves : goal.decreases-put_moves
decreases-put_moves l = l.width
