-- How a packed program stands in the bytes of both memories.
use Rattle.std.specs.Prelude.{◌≡◌, ℕ, ◌<◌, List, length, Option, Some, None, slice_get}
use Rattle.vg_codes.specs.Codes.{Codes}
use Rattle.vg_firm.specs.declared.step.ArrayPlace.{ArrayPlace}
use Rattle.vg_flatten_shapes.specs.declared.layout.Layout.{Layout}
use Rattle.vg_flatten.specs.Columns.{RamStands, TableStands}
use Rattle.vg_trimming.specs.Runs.{AreBytes}
use Rattle.vg_packed.specs.declared.program.FirmProgram.{FirmProgram}
use Rattle.vg_packed.specs.Programs.{handler_in, program_of}

pub record StandIn (k : Codes) (lay : Layout) (f : FirmProgram) (tables ram : List ℕ) (handler : ℕ → Option ℕ) : Type 0 where
  -- the columns stand among the bytes of RAM, and the tables of arrays among those of flash
  pub columns : RamStands lay.ram (program_of k f).ram ram
  pub arrays : (t address : ℕ) (places : List ArrayPlace) → slice_get lay.tables t ≡ Some address → slice_get f.tables t ≡ Some places
      → TableStands tables address places
  -- where the layout has no table, the program has none
  pub known : (t : ℕ) → slice_get lay.tables t ≡ None → slice_get f.tables t ≡ None
  -- handlers are those of the program, and procedures of it
  pub handlers : (v : ℕ) → handler v ≡ handler_in f.handlers v
  pub closed : (v q : ℕ) → handler v ≡ Some q → q < length f.procedures
  -- both memories hold bytes
  pub ram_bytes : AreBytes ram
  pub table_bytes : AreBytes tables
