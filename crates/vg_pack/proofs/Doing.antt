-- What is packed from a program does what the program does.
use Rattle.std.proofs.Common.{Result, Ok, Err, IfOk}
use Rattle.vg_core.specs.declared.heap.Heap.{Heap}
use Rattle.vg_core.specs.Program.{Program}
use Rattle.vg_live.specs.declared.live_set.LiveSet.{LiveSet}
use Rattle.vg_meaning.specs.History.{full, no_history}
use Rattle.vg_number.specs.declared.numbers.Numbers.{Numbers}
use Rattle.vg_place.specs.declared.placing.Columns.{Columns}
use Rattle.vg_packed.specs.declared.program.FirmProgram.{FirmProgram}
use Rattle.vg_packed.specs.Given.{IsGiven}
use Rattle.vg_packed.specs.Packed.{IsPackedFrom}
use Rattle.vg_packed.specs.Ready.{IsReady}
use Rattle.vg_packed.proofs.Placed.{do_the_same}
use Rattle.vg_packed_suits.specs.Bodies.{AreTypedWhereCounted}
use Rattle.vg_pack.specs.Rows.{IsPackedWhole, RowsFitIn}
use Rattle.vg_pack.specs.Same.{DoTheSame}

-- the parts of a whole answer
pub is_from : {E : Type 0} (p : Program) (h : Heap) (s : LiveSet) (n : Numbers) (c : Columns) (r : Result FirmProgram E)
    → IfOk r (IsPackedWhole p h s n c) → IfOk r (IsPackedFrom p h s n c)
is_from p h s n c (Ok f) whole = whole.from
is_from p h s n c (Err why) whole = tt

pub has_fitting_rows : {E : Type 0} (p : Program) (h : Heap) (s : LiveSet) (n : Numbers) (c : Columns) (r : Result FirmProgram E)
    → IfOk r (IsPackedWhole p h s n c) → IfOk r (RowsFitIn p h c)
has_fitting_rows p h s n c (Ok f) whole = whole.rows
has_fitting_rows p h s n c (Err why) whole = tt

pub are_typed : {E : Type 0} (p : Program) (h : Heap) (s : LiveSet) (n : Numbers) (c : Columns) (r : Result FirmProgram E)
    → IfOk r (IsPackedWhole p h s n c) → IfOk r (AreTypedWhereCounted p h c)
are_typed p h s n c (Ok f) whole = whole.typed
are_typed p h s n c (Err why) whole = tt

pub same : {E : Type 0} (p : Program) (h : Heap) (s : LiveSet) (n : Numbers) (c : Columns) → IsGiven p h s n c → (r : Result FirmProgram E)
    → IfOk r (IsPackedWhole p h s n c) → IfOk r (λ f. IsReady p h → DoTheSame p h f)
same p h s n c given (Ok f) whole = λ ready k are deepest reads interrupts clock bytes.
    do_the_same p h s n c f given ready whole.from k are full no_history deepest reads interrupts clock bytes
same p h s n c given (Err why) whole = tt
