use Rattle.vg_enough.proofs.Enough.{enough}
use Rattle.vg_enough.proofs.laws.enough_stack_follows.Goals as goal

pub returns : goal.returns
returns g session flash floor stack a memory reads interrupts clock powered bytes vectors h =
    enough session flash floor stack a memory reads interrupts clock powered bytes vectors h
