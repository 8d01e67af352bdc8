-- What is linked of a packed program and its linear one.
use Rattle.std.specs.Prelude.{◌≡◌, ℕ}
use Rattle.vg_place.specs.declared.placing.Columns.{Columns}
use Rattle.vg_packed.specs.declared.program.FirmProgram.{FirmProgram}
use Rattle.vg_packed.specs.Programs.{handler_in}
use Rattle.vg_table_bytes.specs.Bytes.{ram_widths, table_bytes_of}
use Rattle.vg_linear.specs.declared.whole.Linear.{Linear}
use Rattle.vg_linear.specs.Whole.{IsLinear}
use Rattle.vg_link.specs.declared.unlinked.Unlinked.{Unlinked}
use Rattle.vg_link.specs.Linking as linking
use Rattle.vg_link.specs.Linking.{CanBeLinked}
use Rattle.vg_compile.specs.Handlers.{HandlersReceiveNothing}

-- What is linked has the procedures and the dispatches of the linear program, and of the packed one the handlers and the bytes of the tables.
pub record IsUnlinked (c : Columns) (f : FirmProgram) (l : Linear) (u : Unlinked) : Type 0 where
  pub procedures : u.procedures ≡ l.procedures
  pub start : u.start ≡ l.start
  pub dispatches : u.dispatches ≡ l.dispatches
  pub tables : u.tables ≡ table_bytes_of (ram_widths c.list) f.columns f.tables
  pub static_bytes : u.static_bytes ≡ c.static_bytes
  pub handlers : (v : ℕ) → linking.handler_in u.handlers v ≡ handler_in f.handlers v

-- What is packed can be linked whatever its linear program is, where the handlers of that receive nothing.
abbrev pub AlwaysLinks : Columns → FirmProgram → Type 0
AlwaysLinks c f = (l : Linear) (u : Unlinked) → HandlersReceiveNothing u → IsLinear c.list f l → IsUnlinked c f l u → CanBeLinked u
