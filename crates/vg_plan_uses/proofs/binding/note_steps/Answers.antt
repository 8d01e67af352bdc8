use Rattle.std.proofs.Common.{◌∙◌, ◌+◌, ap, drop, length}
use Rattle.vg_plan_uses.specs.Binding.{named, named_by}
use Rattle.vg_plan_uses.specs.Sets.{with_all}
use Rattle.vg_plan_uses.proofs.Noting.{rest_at, turn}
use Rattle.vg_plan_uses.proofs.binding.note_steps.Goals as goal

pub loop-index-preserved : goal.loop-index-preserved
loop-index-preserved c = (
  c.in_ok-note_step.ensures.is,
  c.in_ok-note_step.ensures.room ∙ c.loop-index.invariant.1,
  turn (length c.args.set.now.marks) (length c.loop-index.set.marks) 0 c.loop-index.set.list c.note_step.new.set.list
      (with_all (length c.args.set.now.marks) c.args.set.now.list (named c.args.plan.now c.args.dispatches.now c.args.steps.now))
      (named_by c.args.plan.now c.args.dispatches.now c.step_at.result)
      (named c.args.plan.now c.args.dispatches.now (drop (c.loop-index.index + 1) c.args.steps.now))
      (named c.args.plan.now c.args.dispatches.now (drop c.loop-index.index c.args.steps.now)) (c.loop-index.invariant.2)
      (ap (named c.args.plan.now c.args.dispatches.now) (rest_at c.args.steps.now c.loop-index.index c.step_at.result c.step_at.ensures))
      (c.loop-index.invariant.1) c.in_ok-note_step.ensures.list,
)
