use Rattle.std.proofs.Common.{◌∙◌, sym}
use Rattle.vg_core.specs.HeldProgram.{program_at}
use Rattle.vg_reach_holding.proofs.Places.{on_ok}
use Rattle.vg_reach_visits.proofs.Sites.{meets_one}
use Rattle.vg_reach_visits.proofs.meeting.meet.Goals as goal

pub returns-in-Some : goal.returns-in-Some
returns-in-Some c =
    on_ok c.mark.result (λ d q is im cl ik. meets_one (program_at c.args.program.now) c.args.heap.now c.args.marks.now c.mark.new.self c.args.site c.args.class c.args.cell
    c.in-Some.method (sym c.finds.ensures ∙ c.in-Some.is) d q is im cl ik) c.mark.ensures
