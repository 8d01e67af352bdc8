use Rattle.std.proofs.Common.{refl, reverse}
use Rattle.vg_alloc.specs.Locations.{layout}
use Rattle.vg_put_operations.specs.Coded.{code_from}
use Rattle.vg_select.specs.Selected.{with_codes}
use Rattle.vg_put_procedures.specs.Emitted.{leading_in}
use Rattle.vg_put_procedures.proofs.Turning.{done_next}
use Rattle.vg_put_procedures.proofs.bodies.put_body.Goals as goal

pub loop-pc-preserved : goal.loop-pc-preserved
loop-pc-preserved c =
    let made = c.in_ok-at.ensures in let place = c.in_ok-push.ensures in
    done_next (layout c.args.locations.now) (with_codes (code_from c.args.codes.now) c.args.dispatches.now) (leading_in c.args.leadings.now)
    c.args.instrs.now c.args.start c.args.code.now c.args.places.now c.loop-pc.pc c.loop-pc.code c.put_next.new.code c.loop-pc.places c.push.new.self
    (reverse c.loop-pc.waits.items) (reverse c.put_next.new.waits.items) c.loop-pc.at c.in_ok-at.at (leading_in c.args.leadings.now c.loop-pc.pc)
    c.loop-pc-test.true c.loop-pc.invariant refl made.code place.ok made.waits made.next
