use Rattle.std.proofs.Common.{arith, rules}
use Rattle.avr_sim.proofs.Following.{follow_first, follow_on, follow_fails, follow_ends}
use Rattle.avr_sim.proofs.machine.go.Goals as goal

pub loop-step-init : goal.loop-step-init
loop-step-init g c = (follow_first _ _ _ _ _ (omega arith) c.requires, search rules)

pub returns-then-is_some-clause-ended : goal.returns-then-is_some-clause-ended
returns-then-is_some-clause-ended g c =
    (follow_ends _ _ _ _ _ c.ended.result _ _ c.loop-step.invariant.0 c.ended.ensures (search rules)).0

pub returns-then-is_some-clause-trace : goal.returns-then-is_some-clause-trace
returns-then-is_some-clause-trace g c =
    (follow_ends _ _ _ _ _ c.ended.result _ _ c.loop-step.invariant.0 c.ended.ensures (search rules)).1

pub returns-in_err-put_pending-clause-failed : goal.returns-in_err-put_pending-clause-failed
returns-in_err-put_pending-clause-failed g c =
    let h = follow_fails _ c.args.budget c.loop-step._step _ _ c.step.new.self c.take_event.result _ _ _ c.loop-step-test.true c.loop-step.invariant.0
    c.step.ensures c.take_event.ensures.event c.in_err-put_pending.ensures.failed in
    search rules

pub loop-step-preserved : goal.loop-step-preserved
loop-step-preserved g c = (
  follow_on _ c.args.budget c.loop-step._step _ _ c.step.new.self _ c.take_event.result _ _ _ c.loop-step-test.true c.loop-step.invariant.0 c.step.ensures
      c.take_event.ensures.event c.take_event.ensures.rest c.in_ok-put_pending.ensures.ok,
  search rules,
)
