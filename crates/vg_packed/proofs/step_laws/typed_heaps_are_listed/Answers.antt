use Rattle.vg_packed.proofs.Listed.{listed}
use Rattle.vg_packed.proofs.step_laws.typed_heaps_are_listed.Goals as goal

pub returns : goal.returns
returns c = λ p h t. listed p h t
