use Rattle.std.proofs.Common.{refl, sym}
use Rattle.vg_core.specs.Heap.{OfObject}
use Rattle.vg_number.specs.Numbering.{kinds_of}
use Rattle.vg_pack_code.specs.Plans.{layout_by}
use Rattle.vg_tables.specs.Entries.{number_in}
use Rattle.vg_pack_values.specs.Columns.{numbers_in}
use Rattle.vg_pack_values.proofs.Entered.{field_spot, value_put}
use Rattle.vg_pack_values.proofs.filling.put_field.Goals as goal

pub returns-in-Some-field : goal.returns-in-Some-field
returns-in-Some-field c = λ k. value_put c.args.tables.now c.args.heap.now (layout_by (kinds_of c.args.heap.now) c.args.numbers.now c.args.plan.now) k
    (OfObject c.args.cell c.args.field) _ c.in-Some-field.value c.in-Some.place.home c.in-Some.place.column c.index_of.result
    (number_in k c.entry_of.result) (numbers_in k c.args.rows.now.items) (numbers_in k c.put.new.rows.items)
    (field_spot c.args.tables.now (layout_by (kinds_of c.args.heap.now) c.args.numbers.now c.args.plan.now) c.args.cell c.args.field
    (record { home = c.in-Some.place.home; column = c.in-Some.place.column }) (sym c.in-Some.ensures))
    (sym c.in-Some-field.ensures) refl refl (sym (c.index_of.ensures c.args.plan.now)) (c.entry_of.ensures k) (c.put.ensures k)
