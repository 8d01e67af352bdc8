use Rattle.vg_first_text.proofs.Parts.{assignment_some, assignment_none}
use Rattle.vg_first_text.proofs.first_text.parts.read_assignment.Goals as goal

pub returns-clause-some : goal.returns-clause-some
returns-clause-some c =
    assignment_some _ _ _ _ _ _ _ c.in-Some.ensures.some.0 c.in-Some.ensures.some.1 c.text_of.ensures c.text_of-2.ensures c.text_of-3.ensures

pub returns-in_default-clause-none : goal.returns-in_default-clause-none
returns-in_default-clause-none c = assignment_none _ _ c.in_default.ensures.none
