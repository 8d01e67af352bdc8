-- Which packed procedures have linear code that is not too long.
use Rattle.std.specs.Prelude.{◌+◌, ◌-◌, ◌≤◌, length}
use Rattle.vg_firm.specs.Program.{Procedure}
use Rattle.vg_flatten_shapes.specs.declared.layout.Layout.{Layout}
use Rattle.vg_firm_typed_any.specs.TypedFor.{IsTypedFor}
use Rattle.vg_flat_sizes.specs.Weights.{flat_weight}

-- A packed procedure is typed and weighs no more than 32,767, with one for each local that is no parameter, and one for the end of the body.
pub record IsShort (lay : Layout) (m : Procedure) : Type 0 where
  pub typed : IsTypedFor lay m
  pub short : length m.widths - m.params + flat_weight m.body + 1 ≤ 32767
