use Rattle.vg_packed.proofs.Placed.{do_the_same}
use Rattle.vg_packed.proofs.run_laws.packed_programs_do_the_same.Goals as goal

pub returns : goal.returns
returns g c = λ r p h s n cs f given ready from k are history deepest reads interrupts clock bytes.
    do_the_same p h s n cs f given ready from k are r history deepest reads interrupts clock bytes
