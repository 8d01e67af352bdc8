use Rattle.vg_source_ranges.proofs.Routines.{ranged_routine}
use Rattle.vg_source_ranges.proofs.laws.legal_routines_are_ranged.Goals as goal

pub returns : goal.returns
returns c = λ most at ds legal have w i r e. ranged_routine most at ds legal have w i r e
