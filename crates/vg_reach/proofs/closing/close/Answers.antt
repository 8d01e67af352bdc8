use Rattle.std.proofs.Common.{subst, sym, arith}
use Rattle.vg_core.specs.HeldProgram.{program_at}
use Rattle.vg_live.specs.Sets.{IsLiveSet}
use Rattle.vg_reach_visits.proofs.Sites.{works_then}
use Rattle.vg_reach.proofs.Closed.{rooted_still, whole}
use Rattle.vg_reach.proofs.closing.close.Goals as goal

pub loop-next-preserved : goal.loop-next-preserved
loop-next-preserved c =
    let p = program_at c.args.program.now in
    let h = c.args.heap.now in
    let inv = c.loop-next.invariant in
    let z = c.in_ok-look_next.ensures (inv.0.0.0, inv.0.1) inv.1 in
    (works_then p h c.args.work c.loop-next.work c.look_next.new.work inv.0 z.0, z.1)

pub returns : goal.returns
returns c =
    let p = program_at c.args.program.now in
    let h = c.args.heap.now in
    let inv = c.loop-next.invariant in
    subst (IsLiveSet p h) (sym c.into_set.ensures)
    (whole p h c.loop-next.work c.loop-next.next inv.0.0.0 inv.0.1 (rooted_still p h c.args.work.marks c.loop-next.work.marks inv.0.0 c.requires.rooted) inv.1
    (omega (arith, c.loop-next-test.false, c.count.ensures)))
