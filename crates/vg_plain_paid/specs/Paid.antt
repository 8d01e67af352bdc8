-- What is asked of packed procedures whose methods' costs pay for them.
use Rattle.std.specs.Prelude.{ℕ, ◌≡◌, ◌+◌, ◌-◌, ◌*◌, ◌<◌, ◌≤◌, List, length, Some, slice_get}
use Rattle.vg_source.specs.Peak.{cost_of}
use Rattle.vg_core.specs.Program.{Program}
use Rattle.vg_firm.specs.Program.{Procedure}
use Rattle.vg_flat_sizes.specs.Weights.{flat_weight}
use Rattle.vg_flat_frames.specs.Methods.{CallsBefore}
use Rattle.vg_flatten_shapes.specs.declared.layout.Layout.{Layout}
use Rattle.vg_packed_suits.specs.Bodies.{IsTypedOf}

-- A packed procedure is typed, with at most 65,535 values that wait at one time, and weighs little; its locals have at most four bytes each; it calls
-- procedures before the start alone, and does not idle; and its method costs 32, and four for each of its locals and each node of its body.
pub record CostsByNodes (p : Program) (lay : Layout) (start : ℕ) (costs : List ℕ) (m : Procedure) : Type 0 where
  pub typed : IsTypedOf p lay m
  pub waiting : typed.typed.most ≤ 65535
  pub light : length m.widths - m.params + flat_weight m.body + 1 ≤ 32767
  pub narrow : (i w : ℕ) → slice_get m.widths i ≡ Some w → w ≤ 4
  pub calls : CallsBefore start m.body
  pub known : m.method < length costs
  pub cost : cost_of costs m.method ≡ 32 + 4 * (length m.widths + typed.method.nodes)
