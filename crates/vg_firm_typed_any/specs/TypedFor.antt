-- Which packed procedures are typed, however many values wait.
use Rattle.std.specs.Prelude.{ℕ, ◌≤◌, false, length}
use Rattle.vg_code_counts.specs.Each.{EachStep}
use Rattle.vg_firm.specs.declared.step.Step.{Step}
use Rattle.vg_firm.specs.Program.{Procedure}
use Rattle.vg_flatten_shapes.specs.declared.layout.Layout.{Layout}
use Rattle.vg_firm_typed.specs.Steps as steps
use Rattle.vg_firm_typed.specs.Typed.{Typed}

-- A step takes at most so many values.
abbrev pub TakesFew : (most : ℕ) → Step → Type 0
TakesFew most p = steps.takes p ≤ most

-- A packed procedure has at most 60 parameters and locals, and at each place it is known how many values wait: none where its body begins and ends, and
-- at most so many at one time. A single step takes at most 189 of them.
pub record IsTypedFor (lay : Layout) (m : Procedure) : Type 0 where
  pub few : length m.widths ≤ 60
  pub most : ℕ
  pub code : Typed (record { layout = lay; locals = length m.widths; most = most }) false 0 m.body 0 0
  pub takes : EachStep (TakesFew 189) m.body
