use Rattle.vg_select.proofs.calling.+newest_bytes.Given as goal

abbrev pub decreases-newest_bytes : goal.decreases-newest_bytes
decreases-newest_bytes l = l.count
