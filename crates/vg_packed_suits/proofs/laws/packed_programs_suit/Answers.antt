use Rattle.vg_packed_suits.proofs.Suited.{suits}
use Rattle.vg_packed_suits.proofs.laws.packed_programs_suit.Goals as goal

pub returns : goal.returns
returns c1 = λ p h s n c f given ready fields from is k are lay stand. suits p h s n c f given ready fields from is k are lay stand
