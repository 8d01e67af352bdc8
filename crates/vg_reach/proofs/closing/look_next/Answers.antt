use Rattle.std.proofs.Common.{◌∙◌, sym}
use Rattle.vg_core.specs.HeldProgram.{program_at}
use Rattle.vg_reach_marks.proofs.Marking.{none_past}
use Rattle.vg_reach_holding.proofs.Places.{on_ok}
use Rattle.vg_reach.proofs.Closed.{looked_one}
use Rattle.vg_reach.proofs.closing.look_next.Goals as goal

pub returns-in-Some : goal.returns-in-Some
returns-in-Some c =
    let u = c.args.work.now in
    let here = sym c.marked_at.ensures ∙ c.in-Some.is in
    on_ok c.visit.result (λ go r d. let k = r.0.ordered c.args.next c.in-Some.member here in let z = go r (k.0, k.1) in
    looked_one (program_at c.args.program.now) c.args.heap.now u c.visit.new.work c.args.next c.in-Some.member r.0 z.0 here z.1 d) c.visit.ensures

pub returns-in-None : goal.returns-in-None
returns-in-None c =
    λ r d. absurd (none_past c.args.work.now.marks.order c.args.next c.requires.within (sym c.marked_at.ensures ∙ c.in-None.is))
