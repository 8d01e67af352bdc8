use Rattle.vg_put_values.proofs.registers.+put_known_bytes.Given as goal

abbrev pub decreases-put_known_bytes : goal.decreases-put_known_bytes
decreases-put_known_bytes l = l.count
