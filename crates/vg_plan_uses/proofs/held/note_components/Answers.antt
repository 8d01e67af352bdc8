use Rattle.std.proofs.Common.{◌∙◌, ◌+◌, ◌<◌, [], drop, if◌then◌else◌, length, subst}
use Rattle.vg_core.specs.Heap.{OfComponent, value_at}
use Rattle.vg_number.specs.Numbering.{has_reason}
use Rattle.vg_plan_uses.specs.Held.{in_components, in_option}
use Rattle.vg_plan_uses.specs.Sets.{with_all}
use Rattle.vg_plan_uses.proofs.Noting.{components_rest, turn}
use Rattle.vg_plan_uses.proofs.held.note_components.Goals as goal

pub loop-field-preserved : goal.loop-field-preserved
loop-field-preserved c = (
  c.in_ok-note_component.ensures.is,
  c.in_ok-note_component.ensures.room ∙ c.loop-field.invariant.1,
  turn (length c.args.set.now.marks) (length c.loop-field.set.marks) 0 c.loop-field.set.list c.note_component.new.set.list
      (with_all (length c.args.set.now.marks) c.args.set.now.list
      (in_components c.args.tables.now c.args.heap.now c.args.live.now c.args.plan.now 0 c.args.tables.now.fields))
      (if has_reason c.args.live.now.fields c.loop-field.field then in_option c.args.plan.now
      (value_at c.args.tables.now c.args.heap.now (OfComponent c.loop-field.field)) else [])
      (in_components c.args.tables.now c.args.heap.now c.args.live.now c.args.plan.now (c.loop-field.field + 1)
      (drop (c.loop-field.field + 1) c.args.tables.now.fields))
      (in_components c.args.tables.now c.args.heap.now c.args.live.now c.args.plan.now c.loop-field.field (drop c.loop-field.field c.args.tables.now.fields))
      (c.loop-field.invariant.2)
      (components_rest c.args.tables.now c.args.heap.now c.args.live.now c.args.plan.now c.loop-field.field c.args.tables.now.fields
      (subst (λ z. c.loop-field.field < z) c.len-field-end.ensures c.loop-field-test.true)) (c.loop-field.invariant.1) c.in_ok-note_component.ensures.list,
)
