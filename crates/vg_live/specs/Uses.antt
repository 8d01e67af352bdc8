-- What code uses: the steps that stand in it, whether a run comes to them or not.
use Rattle.std.specs.Prelude.{ℕ, List, [], ◌∷◌, ◌++◌, Option, Some, None, slice_get}
use Rattle.vg_meaning.specs.Code.{Code, Nothing, Then, Do, If, Loop, Break, Continue, Return}
use Rattle.vg_core.specs.declared.step.Step.{Step}
use Rattle.vg_core.specs.declared.step.Step.TheVariants.{ComponentMethod, MethodOf, CallMethod, CallComponent, NewObject, NewArray}
use Rattle.vg_core.specs.Program.{Body, Program}

-- The steps that stand in code.
abbrev pub uses : Code Step → List Step
uses Nothing = []
uses (Then a b) = uses a ++ uses b
uses (Do s) = s ∷ []
uses (If a b) = uses a ++ uses b
uses (Loop a b c) = uses a ++ uses b ++ uses c
uses Break = []
uses Continue = []
uses Return = []

-- Those of a body, where it is there.
abbrev pub steps_in : Option Body → List Step
steps_in None = []
steps_in (Some b) = uses b.code

-- Those of the method m.
abbrev pub steps_of : Program → (m : ℕ) → List Step
steps_of p m = steps_in (slice_get p.methods m)

-- The method of a component that a step calls or names as a value.
abbrev pub component_method : Step → Option ℕ
component_method (CallComponent m count) = Some m
component_method (ComponentMethod m) = Some m
component_method _ = None

-- A method name on a static class.
pub record Asked : Type 0 where
  pub class : ℕ
  pub selector : ℕ

-- What a step calls or names as a value on an object.
abbrev pub asked : Step → Option Asked
asked (CallMethod at c s count) = Some (record { class = c; selector = s })
asked (MethodOf at c s) = Some (record { class = c; selector = s })
asked _ = None

-- The node at which a step makes an object or an array.
abbrev pub made_at : Step → Option ℕ
made_at (NewObject at c count) = Some at
made_at (NewArray at t) = Some at
made_at _ = None
