use Rattle.vg_number.specs.Numbering.{kinds_of}
use Rattle.vg_pack_code.specs.Plans.{layout_by}
use Rattle.vg_pack_values.specs.Columns.{blank_rows}
use Rattle.vg_pack_values.specs.Places.{components_from, cells_from}
use Rattle.vg_pack_values.proofs.Entered.{whole}
use Rattle.vg_pack_values.proofs.filling.first_columns.Goals as goal

pub returns : goal.returns
returns c = λ k. whole c.args.tables.now c.args.heap.now (layout_by (kinds_of c.args.heap.now) c.args.numbers.now c.args.plan.now) k (components_from 0 c.args.tables.now.fields)
    (cells_from c.args.tables.now c.args.numbers.now 0 c.args.heap.now.cells) c.in_ok-rows.rows.items c.put_components.new.rows.items
    c.put_cells.new.rows.items c.from_vec.result (blank_rows c.args.columns.now) c.in_ok-rows.ensures (c.put_components.ensures k) (c.put_cells.ensures k)
    c.from_vec.ensures
