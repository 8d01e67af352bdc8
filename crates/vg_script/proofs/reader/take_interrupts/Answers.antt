use Rattle.std.proofs.Common.{sym, ◌∙◌}
use Rattle.vg_script.proofs.Items.{filled, emptied, no_interrupt, next_interrupt, all_interrupts}
use Rattle.vg_script.proofs.reader.take_interrupts.Goals as goal

pub returns-in-None : goal.returns-in-None
returns-in-None c =
    no_interrupt c.args.items.now c.loop-rest.rest.now c.args.interrupts.now.items c.loop-rest.interrupts.items
    (filled c.loop-rest.rest.now _ c.is_empty-in-loop-rest.ensures c.loop-rest-test.true) (sym c.first_interrupt.ensures
    ∙ c.in-None.is) c.loop-rest.invariant

pub loop-rest-preserved : goal.loop-rest-preserved
loop-rest-preserved c =
    next_interrupt c.loop-rest.rest.now c.loop-rest.interrupts.items c.push.new.self.items c.in-Some.item _
    (filled c.loop-rest.rest.now _ c.is_empty-in-loop-rest.ensures c.loop-rest-test.true) (sym c.first_interrupt.ensures
    ∙ c.in-Some.is) c.in_ok-push-in-Some.ensures.items c.loop-rest.invariant

pub returns : goal.returns
returns c =
    all_interrupts c.args.items.now c.loop-rest.rest.now c.args.interrupts.now.items c.loop-rest.interrupts.items
    (filled c.args.items.now _ c.is_empty.ensures c.if-is_empty.false)
    (emptied c.loop-rest.rest.now _ c.is_empty-in-loop-rest.ensures c.loop-rest-test.false) c.loop-rest.invariant
