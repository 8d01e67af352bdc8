use Rattle.std.proofs.Common.{map}
use Rattle.vg_plan_columns.specs.Items.{items_from, no_items}
use Rattle.vg_plan_columns.proofs.Steps.{items_more, ram_bound, flash_bound, tables_bound}
use Rattle.vg_plan_columns.proofs.items.item_places.Goals as goal

pub loop-index-preserved : goal.loop-index-preserved
loop-index-preserved c = (
  items_more c.args.columns.now c.loop-index.index c.column_at-column.result c.column_at-column.ensures c.loop-index.ram
      c.loop-index.flash c.loop-index.tables c.ram_next-ram.result c.flash_next-flash.result c.tables_next-tables.result c.place_in.result
      c.loop-index.items.items c.note.new.items.items (items_from 0 0 0 c.args.columns.now (map no_items c.args.types.now)) (c.loop-index.invariant.0)
      c.place_in.ensures c.note.ensures c.ram_next-ram.ensures c.flash_next-flash.ensures c.tables_next-tables.ensures,
  ram_bound c.column_at-column.result.home c.loop-index.ram c.loop-index.index c.ram_next-ram.result (c.loop-index.invariant.1) c.ram_next-ram.ensures,
  flash_bound c.column_at-column.result.home c.loop-index.flash c.loop-index.index c.flash_next-flash.result (c.loop-index.invariant.2) c.flash_next-flash.ensures,
  tables_bound c.column_at-column.result.what c.loop-index.tables c.loop-index.index c.tables_next-tables.result (c.loop-index.invariant.3) c.tables_next-tables.ensures,
)
