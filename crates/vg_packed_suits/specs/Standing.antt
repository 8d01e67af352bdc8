-- Where the columns and the tables of a packed program stand for linear code.
use Rattle.std.specs.Prelude.{◌≡◌, List, map}
use Rattle.vg_flatten_shapes.specs.declared.layout.Layout.{Layout as Placed}
use Rattle.vg_placement.specs.declared.column.Column.{Column}
use Rattle.vg_packed.specs.Packed.{ram_columns}
use Rattle.vg_table_bytes.specs.Rows.{tables_in}

-- Those in RAM and the tables stand in their order, at their addresses.
pub record StandIn (cs : List Column) (lay : Placed) : Type 0 where
  pub ram : lay.ram ≡ map (λ c. record { address = c.at; width = c.width; count = c.count }) (ram_columns cs)
  pub tables : lay.tables ≡ map (λ c. c.at) (tables_in cs)
