use Rattle.std.proofs.Common.{refl}
use Rattle.vg_core.specs.declared.member.Member.TheVariants.{Cell}
use Rattle.vg_core.specs.HeldProgram.{program_at}
use Rattle.vg_reach_marks.proofs.Marking.{in_still}
use Rattle.vg_reach_holding.proofs.Places.{on_ok}
use Rattle.vg_reach_visits.specs.declared.seen.Work.{Work}
use Rattle.vg_reach_visits.proofs.Sites.{object_done}
use Rattle.vg_reach_visits.proofs.looking.visit_object.Goals as goal

pub returns : goal.returns
returns c =
    let p = program_at c.args.program.now in
    let h = c.args.heap.now in
    let u = c.args.work.now in
    let v = c.meet_first.new.work in
    let w : Work = record { marks = c.hold_fields.new.marks; seen = c.meet_first.new.work.seen } in
    on_ok c.hold_fields.result (λ all r i. let z = c.in_ok-meet_first.ensures r c.requires.object i in
    object_done p h u v w c.args.class c.args.cell refl c.requires.object z r.1 (all z.0.0.0 (in_still p h u.marks v.marks (Cell c.args.cell) z.0.0 i))) c.hold_fields.ensures
