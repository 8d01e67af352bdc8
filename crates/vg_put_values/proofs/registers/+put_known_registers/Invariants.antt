use Rattle.vg_put_values.proofs.registers.+put_known_registers.Given as goal

abbrev pub decreases-put_known_registers : goal.decreases-put_known_registers
decreases-put_known_registers l = l.count
