-- Code that names neither a parameter nor a receiver.
use Rattle.std.specs.Prelude.{◌≡◌, ℕ, List, Some, slice_get}
use Rattle.vg_core.specs.declared.step.Step.{Step}
use Rattle.vg_core.specs.declared.step.Step.TheVariants.{This}
use Rattle.vg_firm.specs.Program.{Procedure}
use Rattle.vg_flat_each.specs.Each.{EachStep}
use Rattle.vg_flat_names.specs.Names.{NoReceiver}

-- A step of typed code does not name the object whose method runs.
abbrev pub NoThis : Step → Type 0
NoThis This = ⊥
NoThis s = Unit {0}

-- The procedure of this number has no parameters, but for a receiver, and no step of it names that.
abbrev pub TakesNothing : List Procedure → (number : ℕ) → Type 0
TakesNothing ms q = (m : Procedure) × (slice_get ms q ≡ Some m) × (m.params ≡ 0) × EachStep NoReceiver m.body
