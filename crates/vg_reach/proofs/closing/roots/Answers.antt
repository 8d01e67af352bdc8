use Rattle.vg_core.specs.declared.member.Member.TheVariants.{Method}
use Rattle.vg_core.specs.HeldProgram.{program_at}
use Rattle.vg_reach_marks.proofs.Marking.{drawn_still}
use Rattle.vg_reach.proofs.Closed.{main_marked, sound_nothing}
use Rattle.vg_reach.proofs.closing.roots.Goals as goal

pub returns-clause-sound : goal.returns-clause-sound
returns-clause-sound c =
    let p = program_at c.args.program.now in
    let h = c.args.heap.now in
    let q = sound_nothing p h c.in_ok-marks.marks c.len.result c.len-2.result c.count.result c.in_ok-marks.ensures c.len.ensures c.len-2.ensures c.count.ensures in
    let m = main_marked p h c.in_ok-marks.marks c.mark.new.self c.in_ok-mark.ensures q in
    (c.in_ok-mark_entries.ensures m.0.0).0.0

pub returns-clause-rooted : goal.returns-clause-rooted
returns-clause-rooted c =
    let p = program_at c.args.program.now in
    let h = c.args.heap.now in
    let q = sound_nothing p h c.in_ok-marks.marks c.len.result c.len-2.result c.count.result c.in_ok-marks.ensures c.len.ensures c.len-2.ensures c.count.ensures in
    let m = main_marked p h c.in_ok-marks.marks c.mark.new.self c.in_ok-mark.ensures q in
    let e = c.in_ok-mark_entries.ensures m.0.0 in
    record { main = drawn_still p h c.mark.new.self c.mark_entries.new.marks (Method p.main) e.0 m.1; entries = e.1 }
