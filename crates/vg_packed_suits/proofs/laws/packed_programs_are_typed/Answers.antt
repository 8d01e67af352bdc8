use Rattle.vg_packed_suits.proofs.Bodies.{all_typed}
use Rattle.vg_packed_suits.proofs.laws.packed_programs_are_typed.Goals as goal

pub returns : goal.returns
returns c1 = λ p h s n c f given from is ready fields counted lay stand. all_typed p h s n c f given from is ready fields counted lay stand
