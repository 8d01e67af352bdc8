use Rattle.std.proofs.Common.{None, replicate}
use Rattle.vg_plan_columns.specs.Fields.{fields_from}
use Rattle.vg_plan_columns.proofs.Steps.{fields_more, ram_bound, flash_bound}
use Rattle.vg_plan_columns.proofs.fields.field_places.Goals as goal

pub loop-index-preserved : goal.loop-index-preserved
loop-index-preserved c = (
  fields_more c.args.columns.now c.loop-index.index c.column_at-column.result c.column_at-column.ensures c.loop-index.ram
      c.loop-index.flash c.ram_next-ram.result c.flash_next-flash.result c.place_in.result c.loop-index.places.items c.note.new.places.items
      (fields_from 0 0 c.args.columns.now (replicate c.args.fields None)) (c.loop-index.invariant.0) c.place_in.ensures c.note.ensures c.ram_next-ram.ensures
      c.flash_next-flash.ensures,
  ram_bound c.column_at-column.result.home c.loop-index.ram c.loop-index.index c.ram_next-ram.result (c.loop-index.invariant.1) c.ram_next-ram.ensures,
  flash_bound c.column_at-column.result.home c.loop-index.flash c.loop-index.index c.flash_next-flash.result (c.loop-index.invariant.2) c.flash_next-flash.ensures,
)
