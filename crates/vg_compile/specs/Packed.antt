-- A packed program with its rows, as its image asks for it.
use Rattle.vg_core.specs.declared.heap.Heap.{Heap}
use Rattle.vg_core.specs.Program.{Program}
use Rattle.vg_live.specs.declared.live_set.LiveSet.{LiveSet}
use Rattle.vg_number.specs.declared.numbers.Numbers.{Numbers}
use Rattle.vg_place.specs.declared.placing.Columns.{Columns}
use Rattle.vg_packed.specs.declared.program.FirmProgram.{FirmProgram}
use Rattle.vg_packed.specs.Packed.{IsPackedFrom}
use Rattle.vg_pack.specs.Rows.{RowsFitIn}

pub record IsPackedRows (p : Program) (h : Heap) (s : LiveSet) (n : Numbers) (c : Columns) (f : FirmProgram) : Type 0 where
  pub from : IsPackedFrom p h s n c f
  pub rows : RowsFitIn p h c f
