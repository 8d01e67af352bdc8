use Rattle.vg_source_ranges.proofs.Bodies.{ranged_body}
use Rattle.vg_source_ranges.proofs.laws.legal_bodies_are_ranged.Goals as goal

pub returns-clause-code : goal.returns-clause-code
returns-clause-code c = λ most ds k a ls e s w. (ranged_body most ds k a ls e s w).does

pub returns-clause-locals : goal.returns-clause-locals
returns-clause-locals c = λ most ds k a ls e s w. (ranged_body most ds k a ls e s w).scope
