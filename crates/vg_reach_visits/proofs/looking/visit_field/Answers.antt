use Rattle.std.proofs.Common.{refl}
use Rattle.vg_core.specs.HeldProgram.{program_at}
use Rattle.vg_reach_holding.proofs.Places.{on_ok}
use Rattle.vg_reach_visits.specs.declared.seen.Work.{Work}
use Rattle.vg_reach_visits.proofs.Sites.{field_done}
use Rattle.vg_reach_visits.proofs.looking.visit_field.Goals as goal

pub returns : goal.returns
returns c =
    let v : Work = record { marks = c.hold_component.new.marks; seen = c.args.work.now.seen } in
    let w : Work = record { marks = c.hold_objects.new.marks; seen = c.args.work.now.seen } in
    on_ok c.hold_objects.result (λ two r i. field_done (program_at c.args.program.now) c.args.heap.now c.args.work.now v w c.args.field refl refl r i
    c.in_ok-hold_component.ensures two) c.hold_objects.ensures
