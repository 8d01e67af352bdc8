use Rattle.std.proofs.Common.{◌+◌, ◌<◌, drop, subst}
use Rattle.vg_core.specs.Heap.{OfComponent}
use Rattle.vg_number.specs.Numbering.{kinds_of}
use Rattle.vg_pack_code.specs.Plans.{layout_by}
use Rattle.vg_pack_values.specs.Columns.{numbers_in}
use Rattle.vg_pack_values.specs.Places.{components_from, with_places}
use Rattle.vg_pack_values.proofs.Entered.{components_rest, one_more}
use Rattle.vg_pack_values.proofs.filling.put_components.Goals as goal

pub loop-field-preserved : goal.loop-field-preserved
loop-field-preserved c = λ k. one_more c.args.tables.now c.args.heap.now (layout_by (kinds_of c.args.heap.now) c.args.numbers.now c.args.plan.now) k
    (components_from c.loop-field.field (drop c.loop-field.field c.args.tables.now.fields))
    (components_from (c.loop-field.field + 1) (drop (c.loop-field.field + 1) c.args.tables.now.fields)) (OfComponent c.loop-field.field)
    (numbers_in k c.loop-field.rows.items) (numbers_in k c.put_component.new.rows.items)
    (with_places c.args.tables.now c.args.heap.now (layout_by (kinds_of c.args.heap.now) c.args.numbers.now c.args.plan.now) k
    (components_from 0 c.args.tables.now.fields) (numbers_in k c.args.rows.now.items)) (c.loop-field.invariant k)
    (components_rest c.loop-field.field c.args.tables.now.fields (subst (λ z. c.loop-field.field < z) c.len-field-end.ensures c.loop-field-test.true))
    (c.put_component.ensures k)
