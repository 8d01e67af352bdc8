use Rattle.vg_enough.proofs.Enough.{never}
use Rattle.vg_enough.proofs.laws.never_reached_follows.Goals as goal

pub returns : goal.returns
returns g session flash floor stack a memory reads interrupts clock powered bytes vectors h =
    never session flash floor stack a memory reads interrupts clock powered bytes vectors h
