use Rattle.vg_core.specs.declared.member.Member.TheVariants.{Method}
use Rattle.vg_core.specs.HeldProgram.{program_at}
use Rattle.vg_reach_marks.proofs.Marking.{in_still}
use Rattle.vg_reach_holding.proofs.Places.{on_ok}
use Rattle.vg_reach_visits.proofs.Sites.{one_site, seen_still}
use Rattle.vg_reach_visits.proofs.meeting.meet_site.Goals as goal

pub returns : goal.returns
returns c =
    let p = program_at c.args.program.now in
    let h = c.args.heap.now in
    let a = c.args.work.now.marks in
    let b = c.meet_classes.new.marks in
    on_ok c.put_site.result (λ put r is im. let z = c.in_ok-meet_classes.ensures r.0 r.1 is im in
    let y = one_site p h b c.args.work.now.seen c.put_site.new.self c.args.site put (seen_still p h a b c.args.work.now.seen z.0 r.1) is
    (in_still p h a b (Method c.args.site.method) z.0 im) z.1 in
    ((z.0, y.0, y.1), y.2)) c.put_site.ensures
