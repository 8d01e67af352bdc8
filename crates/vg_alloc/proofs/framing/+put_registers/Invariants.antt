use Rattle.vg_alloc.proofs.framing.+put_registers.Given as goal

abbrev pub decreases-put_registers : goal.decreases-put_registers
decreases-put_registers l = l.count
