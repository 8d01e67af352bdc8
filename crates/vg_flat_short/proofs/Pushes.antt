-- That typed code is flattened where as many of the oldest values are pushed as find no room in the temporaries.
use Rattle.std.specs.Prelude.{ℕ, ◌+◌, ◌-◌, ◌<◌, ◌≤◌, false, length}
use Rattle.std.proofs.Common.{inr, arith}
use Rattle.vg_code_counts.specs.Each.{EachStep}
use Rattle.vg_firm.specs.Program.{Procedure}
use Rattle.vg_flatten_shapes.specs.declared.layout.Layout.{Layout}
use Rattle.vg_flatten_shapes.specs.Shapes.{empty}
use Rattle.vg_flatten_pushed.specs.Stacked.{stacked}
use Rattle.vg_firm_typed.specs.Typed.{Typed}
use Rattle.vg_firm_typed_any.specs.TypedFor.{TakesFew}
use Rattle.vg_flatten.specs.Flattened.{own_widths, temps_for, IsPushedFrom}
use Rattle.vg_flatten.specs.Refusals.{room_for}
use Rattle.vg_flat_sizes.specs.Weights.{flat_weight}
use Rattle.vg_flat_weights.proofs.Whole.{code_short}
use Rattle.vg_flat_taken.proofs.Whole.{pushed_closed}
use Rattle.vg_flat_short.proofs.Fewest.{short_as}

module _ (lay : Layout) (m : Procedure) (most : ℕ) (locals : length m.widths ≤ 60)
    (typed : Typed (record { layout = lay; locals = length m.widths; most = most }) false 0 m.body 0 0) (takes : EachStep (TakesFew 189) m.body)
    (more : temps_for (length (own_widths m)) < most) (within : most ≤ 65535) (room : length m.widths - m.params + flat_weight m.body + 1 ≤ 65519) where
  pub pushed_from : IsPushedFrom lay m (most - temps_for (length (own_widths m)))
  pushed_from =
      record {
        one = omega (arith, more);
        few = omega (arith, within);
        each = λ pushes least there.
            short_as m (stacked lay (room_for m) pushes m.body empty) room
            (pushed_closed lay m locals most pushes typed takes (omega (arith, more, least)) (omega (arith, more, least)))
            (λ b s e. code_short lay (room_for m) pushes m.body empty s b (inr e));
      }
