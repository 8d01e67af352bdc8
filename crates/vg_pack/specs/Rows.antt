-- A packed program with its rows.
use Rattle.std.specs.Prelude.{length}
use Rattle.vg_codes.specs.Codes.{Codes, AreCodes}
use Rattle.vg_core.specs.declared.heap.Heap.{Heap}
use Rattle.vg_core.specs.Program.{Program}
use Rattle.vg_live.specs.declared.live_set.LiveSet.{LiveSet}
use Rattle.vg_number.specs.declared.numbers.Numbers.{Numbers}
use Rattle.vg_place.specs.declared.placing.Columns.{Columns}
use Rattle.vg_table_bytes.specs.Rows.{HasRows}
use Rattle.vg_packed.specs.declared.program.FirmProgram.{FirmProgram}
use Rattle.vg_packed.specs.Packed.{IsPackedFrom}
use Rattle.vg_packed.specs.Ready.{IsReady}
use Rattle.vg_packed_suits.specs.Bodies.{AreTypedWhereCounted}

-- Its columns and tables have rows that fit into their bytes, whatever the code numbers of its procedures.
abbrev pub RowsFitIn : Program → Heap → Columns → FirmProgram → Type 0
RowsFitIn p h c f = IsReady p h → (k : Codes) → AreCodes (length f.procedures) k → HasRows k c.list f

pub record IsPackedWhole (p : Program) (h : Heap) (s : LiveSet) (n : Numbers) (c : Columns) (f : FirmProgram) : Type 0 where
  pub from : IsPackedFrom p h s n c f
  pub rows : RowsFitIn p h c f
  pub typed : AreTypedWhereCounted p h c f
