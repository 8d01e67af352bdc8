use Rattle.vg_packing.proofs.Calls.{packed_running}
use Rattle.vg_packing.proofs.laws.packed_runs.Goals as goal

pub returns : goal.returns
returns g c = λ r p l k f good laid h typed holds history deepest reads interrupts clock bytes.
    packed_running p good l k f laid r h typed holds history deepest reads interrupts clock bytes
