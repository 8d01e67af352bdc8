-- Where columns and tables stand, and how procedures are called.
use Rattle.std.specs.Prelude.{List, [], ◌∷◌, map, Option, Some, None}
use Rattle.vg_firm.specs.declared.step.ArrayPlace.{ArrayPlace}
use Rattle.vg_flatten_shapes.specs.declared.layout.Layout.{Layout}
use Rattle.vg_placement.specs.declared.column.Column.{Column}
use Rattle.vg_packed.specs.declared.program.FirmProgram.{FirmProgram}
pub use Rattle.vg_started_bytes.specs.Started.{bytes_in, ram_places, table_addresses}
use Rattle.vg_linear.specs.Passing.{passings_for}

-- The array of a table that has no other.
abbrev pub lone_array : List ArrayPlace → Option ArrayPlace
lone_array (a ∷ []) = Some a
lone_array _ = None

abbrev pub lone_arrays : List (List ArrayPlace) → List (Option ArrayPlace)
lone_arrays tables = map lone_array tables

-- The columns in RAM and the tables are at their places, and procedures are called as they want to be. No column stands in flash.
abbrev pub layout_of : List Column → FirmProgram → Layout
layout_of cs f = record {
  ram = ram_places cs;
  flash = [];
  tables = table_addresses cs;
  lone_arrays = lone_arrays f.tables;
  passing = passings_for f.procedures;
}
