use Rattle.std.proofs.Common.{◌+◌, drop}
use Rattle.vg_number.specs.Numbering.{kinds_of}
use Rattle.vg_pack_code.specs.Plans.{layout_by}
use Rattle.vg_pack_values.specs.Columns.{numbers_in}
use Rattle.vg_pack_values.specs.Places.{kept_places, cells_from, with_places}
use Rattle.vg_pack_values.proofs.Entered.{cells_rest, more}
use Rattle.vg_pack_values.proofs.filling.put_cells.Goals as goal

pub loop-number-preserved : goal.loop-number-preserved
loop-number-preserved c = λ k. more c.args.tables.now c.args.heap.now (layout_by (kinds_of c.args.heap.now) c.args.numbers.now c.args.plan.now) k
    (cells_from c.args.tables.now c.args.numbers.now c.loop-number.number (drop c.loop-number.number c.args.heap.now.cells))
    (kept_places c.args.tables.now c.args.numbers.now c.loop-number.number c.index-cells-number.result)
    (cells_from c.args.tables.now c.args.numbers.now (c.loop-number.number + 1) (drop (c.loop-number.number + 1) c.args.heap.now.cells))
    (numbers_in k c.loop-number.rows.items) (numbers_in k c.put_kept.new.rows.items)
    (with_places c.args.tables.now c.args.heap.now (layout_by (kinds_of c.args.heap.now) c.args.numbers.now c.args.plan.now) k
    (cells_from c.args.tables.now c.args.numbers.now 0 c.args.heap.now.cells) (numbers_in k c.args.rows.now.items)) (c.loop-number.invariant k)
    (cells_rest c.args.tables.now c.args.numbers.now c.loop-number.number c.args.heap.now.cells c.cells-cells.result.now c.index-cells-number.result
    c.cells-cells.ensures c.loop-number-test.true c.index-cells-number.is) (c.put_kept.ensures k)
