use Rattle.std.proofs.Common.{Some, ap, ◌∙◌}
use Rattle.vg_bound.proofs.Steps.{room_more, starts, found_cost, something_open}
use Rattle.vg_bound.proofs.walk.search_from.Goals as goal

pub returns-in-Done-clause-found : goal.returns-in-Done-clause-found
returns-in-Done-clause-found c =
    found_cost c.args.frames.now c.args.calls.now c.loop-cost.search c.loop-cost.invariant.0 c.args.root c.in-Done.cost c.loop-cost.invariant.1
    (c.mark_of.ensures ∙ ap Some c.in-Done.is)

pub enter-requires-clause-room : goal.enter-requires-clause-room
enter-requires-clause-room c =
    room_more c.args.frames.now c.args.calls.now c.loop-cost.search c.loop-cost.invariant.0 c.args.root (c.mark_of.ensures ∙ ap Some c.in-Unseen.is)

pub loop-cost-smaller-in-Unseen : goal.loop-cost-smaller-in-Unseen
loop-cost-smaller-in-Unseen c =
    (starts c.args.frames.now c.args.calls.now c.loop-cost.search c.loop-cost.invariant.0 c.args.root c.enter.new.self c.enter.ensures
    c.loop-cost.invariant.1 (c.mark_of.ensures ∙ ap Some c.in-Unseen.is)).2

pub loop-cost-preserved-in-Unseen : goal.loop-cost-preserved-in-Unseen
loop-cost-preserved-in-Unseen c =
    let s = starts c.args.frames.now c.args.calls.now c.loop-cost.search c.loop-cost.invariant.0 c.args.root c.enter.new.self c.enter.ensures
    c.loop-cost.invariant.1 (c.mark_of.ensures ∙ ap Some c.in-Unseen.is) in
    (s.0, s.1)

pub step-requires-clause-some : goal.step-requires-clause-some
step-requires-clause-some c =
    something_open c.args.frames.now c.args.calls.now c.loop-cost.search c.loop-cost.invariant.0 c.args.root c.in-Open.field-0
    (c.mark_of.ensures ∙ ap Some c.in-Open.is)

pub loop-cost-preserved : goal.loop-cost-preserved
loop-cost-preserved c = (c.in-None.ensures.0, c.in-None.ensures.2 c.args.root c.loop-cost.invariant.1)
