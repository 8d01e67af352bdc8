-- Which procedures get a receiver.
use Rattle.std.specs.Prelude.{ℕ, suc, Bool, true, List, [], ◌∷◌, slice_get}
use Rattle.vg_core.specs.declared.program.Method.{Method}
use Rattle.vg_core.specs.declared.program.Owner.{Owner}
use Rattle.vg_core.specs.declared.program.Owner.TheVariants.{InClass, InComponent}
use Rattle.vg_pack_code.specs.Plans.{holds}

-- A method of a class gets one, and each that a delegate may be of.
abbrev pub gets : List Bool → (m : ℕ) → Owner → Bool
gets bindable m (InClass c) = true
gets bindable m (InComponent k) = holds (slice_get bindable m)

-- Those from m on.
abbrev pub receivers_from : List Bool → (m : ℕ) → List Method → List Bool
receivers_from bindable m [] = []
receivers_from bindable m (y ∷ ys) = gets bindable m y.owner ∷ receivers_from bindable (suc m) ys
