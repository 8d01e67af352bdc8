use Rattle.vg_first_text.proofs.Parts.{middle_some, middle_none}
use Rattle.vg_first_text.proofs.first_text.parts.read_middle.Goals as goal

pub returns-clause-some : goal.returns-clause-some
returns-clause-some c = middle_some _ _ _ _ _ c.in-Some.ensures.some.0 c.in-Some.ensures.some.1 c.text_of.ensures

pub returns-in_default-clause-none : goal.returns-in_default-clause-none
returns-in_default-clause-none c = middle_none _ _ c.in_default.ensures.none
