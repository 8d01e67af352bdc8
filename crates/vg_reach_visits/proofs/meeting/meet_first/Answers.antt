use Rattle.std.proofs.Common.{◌∙◌, sym}
use Rattle.vg_core.specs.declared.member.Member.TheVariants.{Cell}
use Rattle.vg_core.specs.HeldProgram.{program_at}
use Rattle.vg_reach_marks.proofs.Marking.{in_still}
use Rattle.vg_reach_visits.proofs.Sites.{one_first, seen_still}
use Rattle.vg_reach_visits.proofs.meeting.meet_first.Goals as goal

pub returns-in_ok-meet_sites-in-None : goal.returns-in_ok-meet_sites-in-None
returns-in_ok-meet_sites-in-None c =
    let p = program_at c.args.program.now in
    let h = c.args.heap.now in
    let a = c.args.work.now.marks in
    let b = c.meet_sites.new.marks in
    λ r cl i. let z = c.in_ok-meet_sites-in-None.ensures r.0 r.1 cl i in
    let y = one_first p h b c.args.work.now.seen c.put_first.new.self c.args.class c.args.cell c.put_first.ensures (seen_still p h a b c.args.work.now.seen z.0 r.1)
    (sym c.first.ensures ∙ c.in-None.is) cl (in_still p h a b (Cell c.args.cell) z.0 i) z.1 in
    ((z.0, y.0, y.1), y.2)
