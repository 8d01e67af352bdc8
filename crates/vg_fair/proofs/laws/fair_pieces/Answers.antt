use Rattle.vg_fair.proofs.Fair.{alike_then, alike_stops, alike_opened}
use Rattle.vg_fair.proofs.laws.fair_pieces.Goals as goal

pub returns-clause-sequence : goal.returns-clause-sequence
returns-clause-sequence g c = λ a b f h p k. alike_then f h p k

pub returns-clause-stops : goal.returns-clause-stops
returns-clause-stops g c = λ code at at'. alike_stops _ _ _ code at at'

pub returns-clause-opened : goal.returns-clause-opened
returns-clause-opened g c = λ r call f h k. alike_opened r call f h k
