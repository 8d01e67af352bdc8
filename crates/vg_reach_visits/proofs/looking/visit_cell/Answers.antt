use Rattle.std.proofs.Common.{◌∙◌, sym, refl}
use Rattle.vg_core.specs.HeldProgram.{program_at}
use Rattle.vg_reach_holding.proofs.Places.{on_ok}
use Rattle.vg_reach_visits.specs.declared.seen.Work.{Work}
use Rattle.vg_reach_visits.proofs.Sites.{array_done}
use Rattle.vg_reach_visits.proofs.looking.visit_cell.Goals as goal

pub returns-in-None : goal.returns-in-None
returns-in-None c =
    let w : Work = record { marks = c.hold_items.new.marks; seen = c.args.work.now.seen } in
    on_ok c.hold_items.result (λ all r i. array_done (program_at c.args.program.now) c.args.heap.now c.args.work.now w c.args.cell refl
    (sym c.class_of.ensures ∙ c.in-None.is) r.1 (all r.0 i)) c.hold_items.ensures
