use Rattle.std.proofs.Common.{◌∙◌, ◌+◌, ap, drop, refl, sym}
use Rattle.vg_core.specs.Heap.{OfArray}
use Rattle.vg_number.specs.Numbering.{kinds_of}
use Rattle.vg_pack_code.specs.Plans.{layout_by}
use Rattle.vg_tables.specs.Entries.{number_in}
use Rattle.vg_pack_values.specs.Columns.{numbers_in}
use Rattle.vg_pack_values.specs.Places.{items_from, with_places}
use Rattle.vg_pack_values.proofs.Entered.{item_spot_is, item_value, items_rest, one_more, value_put}
use Rattle.vg_pack_values.proofs.filling.put_items.Goals as goal

pub loop-index-preserved : goal.loop-index-preserved
loop-index-preserved c = λ k. one_more c.args.tables.now c.args.heap.now (layout_by (kinds_of c.args.heap.now) c.args.numbers.now c.args.plan.now) k
    (items_from c.args.cell c.loop-index.index (drop c.loop-index.index c.args.values.now))
    (items_from c.args.cell (c.loop-index.index + 1) (drop (c.loop-index.index + 1) c.args.values.now)) (OfArray c.args.cell c.loop-index.index)
    (numbers_in k c.loop-index.rows.items) (numbers_in k c.put.new.rows.items)
    (with_places c.args.tables.now c.args.heap.now (layout_by (kinds_of c.args.heap.now) c.args.numbers.now c.args.plan.now) k
    (items_from c.args.cell 0 c.args.values.now) (numbers_in k c.args.rows.now.items)) (c.loop-index.invariant k)
    (items_rest c.args.cell c.loop-index.index c.args.values.now c.loop-index-test.true)
    (value_put c.args.tables.now c.args.heap.now (layout_by (kinds_of c.args.heap.now) c.args.numbers.now c.args.plan.now) k
    (OfArray c.args.cell c.loop-index.index) _ c.value_in.result c.elements-elements.result.home c.elements-elements.result.column
    (c.from-start.result + c.loop-index.index) (number_in k c.entry_of.result) (numbers_in k c.loop-index.rows.items) (numbers_in k c.put.new.rows.items)
    (item_spot_is c.args.tables.now c.args.heap.now (layout_by (kinds_of c.args.heap.now) c.args.numbers.now c.args.plan.now) c.args.cell c.args.element
    c.loop-index.index c.args.values.now refl c.requires)
    (item_value c.args.tables.now c.args.heap.now c.args.cell c.args.element c.loop-index.index c.args.values.now c.value_in.result c.requires c.value_in.ensures)
    (ap (λ z. z.home) (sym c.elements-elements.ensures)) (ap (λ z. z.column) (sym c.elements-elements.ensures))
    (ap (λ z. z + c.loop-index.index) (sym (c.from-start.ensures ∙ c.start_of.ensures))) (c.entry_of.ensures k) (c.put.ensures k))
