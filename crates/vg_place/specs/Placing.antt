-- What the placement of columns answers.
use Rattle.std.specs.Prelude.{◌≡◌, ℕ, ◌<◌, ◌≤◌, List, Result, Ok, Err, Some, length, slice_get}
use Rattle.vg_base.specs.declared.refusal.Refusal.{Refusal}
use Rattle.vg_base.specs.declared.refusal.Refusal.TheVariants.{Fault, NoMemory}
use Rattle.vg_core.specs.declared.program.Field.{Field}
use Rattle.vg_core.specs.declared.program.Owner.{Owner}
use Rattle.vg_core.specs.declared.program.Owner.TheVariants.{InClass, InComponent}
use Rattle.vg_core.specs.declared.program.Tables.{Tables}
use Rattle.vg_firm.specs.declared.step.Home.TheVariants.{Ram, Flash}
use Rattle.vg_placement.specs.declared.column.Column.{Column}
use Rattle.vg_placement.specs.Columns.{home_bytes, placed}
use Rattle.vg_place.specs.declared.placing.Columns.{Columns}
use Rattle.vg_place.specs.declared.placing.PlaceFault.{PlaceFault}
use Rattle.vg_place.specs.declared.placing.PlaceFault.TheVariants.{StaticFull, TableFull}

-- The class that declares a field is in the tables.
abbrev pub IsOwned : Tables → Owner → Type 0
IsOwned p (InClass c) = c < length p.classes
IsOwned p (InComponent k) = Unit {0}

abbrev pub AreOwned : Tables → Type 0
AreOwned p = (f : ℕ) (y : Field) → slice_get p.fields f ≡ Some y → IsOwned p y.owner

-- These columns are at their addresses, RAM from 0x0100 and the tables from the byte 0x008C, and their sums are within the limits: all of RAM,
-- and 60,000 bytes of tables.
pub record ArePlaced (cs : List Column) (c : Columns) : Type 0 where
  pub list : c.list ≡ placed 0x0100 0x008C cs
  pub static_is : c.static_bytes ≡ home_bytes Ram cs
  pub tables_are : c.table_bytes ≡ home_bytes Flash cs
  pub fits : home_bytes Ram cs ≤ 4096
  pub tables_fit : home_bytes Flash cs ≤ 60000

-- They are placed, or it is the first refusal whose sum passes its limit, with that sum.
abbrev pub Places : List Column → Result Columns (Refusal PlaceFault) → Type 0
Places cs (Ok c) = ArePlaced cs c
Places cs (Err (Fault (StaticFull need))) = (4096 < home_bytes Ram cs) × (need ≡ home_bytes Ram cs)
Places cs (Err (Fault (TableFull need))) = (home_bytes Ram cs ≤ 4096) × (60000 < home_bytes Flash cs) × (need ≡ home_bytes Flash cs)
Places cs (Err NoMemory) = Unit {0}
