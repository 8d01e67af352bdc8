use Rattle.vg_first_text.proofs.First.{reaches_middle, reaches_tail, behind_middle}
use Rattle.vg_first_text.proofs.first_text.parts.read_program.Goals as goal

pub returns-in_default-read_middle-clause-not : goal.returns-in_default-read_middle-clause-not
returns-in_default-read_middle-clause-not c = λ _ _ f e.
    let m = reaches_middle _ _ _ _ _ _ f c.in-Some.ensures.some c.in_ok-assignments.ensures.all c.in_ok-assignments.ensures.rest e in
    c.in_default-read_middle.ensures.none f.device (behind_middle f) m.1

pub returns-in_default-read_tail-clause-not : goal.returns-in_default-read_tail-clause-not
returns-in_default-read_tail-clause-not c = λ _ _ f e.
    let m = reaches_middle _ _ _ _ _ _ f c.in-Some.ensures.some c.in_ok-assignments.ensures.all c.in_ok-assignments.ensures.rest e in
    let t = reaches_tail _ _ _ _ _ f c.in-Some-read_middle.ensures.some c.in_ok-registers.ensures.all c.in_ok-registers.ensures.rest m.1 in
    c.in_default-read_tail.ensures.none f.program f.key f.entry_component f.entry_method t.1
