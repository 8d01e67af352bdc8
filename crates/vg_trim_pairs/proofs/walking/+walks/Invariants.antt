use Rattle.vg_trim_pairs.proofs.walking.+walks.Given as goal

abbrev pub decreases-walks : goal.decreases-walks
decreases-walks l = l.most
