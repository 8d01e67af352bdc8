-- What code uses: the steps that stand in it, whether a run comes to them or not.
use Rattle.std.specs.Prelude.{ℕ, List, [], ◌∷◌, ◌++◌, Option, Some, None}
use Rattle.vg_meaning.specs.Code.{Code, Nothing, Then, Do, If, Loop, Break, Continue, Return}
use Rattle.vg_source.specs.Names.{Name}
use Rattle.vg_source.specs.Steps.{Step, ComponentMethod, MethodOf, CallMethod, CallComponent, NewObject, NewArray, Routine, Source}
use Rattle.vg_source.specs.Steps.{Method as TheMethod}
use Rattle.vg_source.specs.State.{find_routine}
use Rattle.vg_live_source.specs.Members.{Member, Method}

-- The steps that stand in code.
abbrev pub uses : Code Step → List Step
uses Nothing = []
uses (Then a b) = uses a ++ uses b
uses (Do s) = s ∷ []
uses (If a b) = uses a ++ uses b
uses (Loop a b c) = uses a ++ uses b ++ uses c
uses Break = []
uses Continue = []
uses Return = []

-- Those of a routine, where it is there.
abbrev pub steps_in : Option Routine → List Step
steps_in None = []
steps_in (Some r) = uses r.body

-- Those of the method m that c declares.
abbrev pub steps_of : Source → (c m : Name) → List Step
steps_of p c m = steps_in (find_routine p.routines (TheMethod c m))

-- The method of a component that a step calls or names as a value.
abbrev pub component_method : Step → Option Member
component_method (CallComponent c m count) = Some (Method c m)
component_method (ComponentMethod c m) = Some (Method c m)
component_method _ = None

-- The name of a method on a static class.
pub record Asked : Type 0 where
  pub class : Name
  pub name : Name

-- What a step calls or names as a value on an object.
abbrev pub asked : Step → Option Asked
asked (CallMethod at c m count) = Some (record { class = c; name = m })
asked (MethodOf at c m) = Some (record { class = c; name = m })
asked _ = None

-- The node at which a step makes an object or an array.
abbrev pub made_at : Step → Option ℕ
made_at (NewObject at c count) = Some at
made_at (NewArray at t) = Some at
made_at _ = None
