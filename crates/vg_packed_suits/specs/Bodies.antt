-- What the methods of a program have where all that is packed of it is typed.
use Rattle.std.specs.Prelude.{◌≡◌, ◌≤◌, ◌+◌, ℕ, length, map, Some, slice_get}
use Rattle.std.specs.List.{AllByRecursion}
use Rattle.vg_core.specs.declared.heap.Heap.{Heap}
use Rattle.vg_core.specs.declared.program.Field.{Field}
use Rattle.vg_core.specs.declared.program.Method.{Method}
use Rattle.vg_core.specs.declared.program.Tables.{Tables}
use Rattle.vg_core.specs.Program.{Body, Program}
use Rattle.vg_firm.specs.Held.{procedure_of}
use Rattle.vg_firm.specs.Program.{Procedure}
use Rattle.vg_firm_typed_any.specs.TypedFor.{IsTypedFor}
use Rattle.vg_flatten_shapes.specs.declared.layout.Layout.{Layout as Placed}
use Rattle.vg_packing.specs.Allowed.{IsSmall}
use Rattle.vg_packed_typed.specs.Methods.{AreCounted}
use Rattle.vg_place.specs.declared.placing.Columns.{Columns}
use Rattle.vg_packed.specs.declared.program.FirmProgram.{FirmProgram}
use Rattle.vg_packed.specs.Ready.{IsReady}
use Rattle.vg_packed_suits.specs.Standing.{StandIn}

-- Bit strings in fields have at most 32 bits.
abbrev pub HaveSmallFields : Tables → Type 0
HaveSmallFields p = (f : ℕ) (y : Field) → slice_get p.fields f ≡ Some y → IsSmall y.type_

-- A packed procedure is typed; it has as many locals as the method of its number has parameters and other locals; and at most two values more wait in it than
-- that method's body has nodes.
pub record IsTypedOf (p : Program) (lay : Placed) (m : Procedure) : Type 0 where
  pub typed : IsTypedFor lay m
  pub method : Method
  pub there : slice_get p.tables.methods m.method ≡ Some method
  pub within : typed.most ≤ method.nodes + 2
  pub body : Body
  pub has_body : slice_get p.methods m.method ≡ Some body
  pub locals : length m.widths ≡ length method.params + length body.others

-- Each packed procedure is so, wherever linear code has the columns and the tables as they stand.
abbrev pub AreTyped : Program → Columns → FirmProgram → Type 0
AreTyped p c f = (lay : Placed) → StandIn c.list lay → AllByRecursion (IsTypedOf p lay) (map procedure_of f.procedures)

-- So it is where the program is ready to be packed, and its methods and fields are so.
abbrev pub AreTypedWhereCounted : Program → Heap → Columns → FirmProgram → Type 0
AreTypedWhereCounted p h c f = IsReady p h → HaveSmallFields p.tables → AreCounted p → AreTyped p c f
