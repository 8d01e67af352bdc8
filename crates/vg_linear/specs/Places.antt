-- Where one column more stands. (Mirrors of the code's loops.)
use Rattle.std.specs.Prelude.{ℕ, List, [], ◌∷◌}
use Rattle.vg_firm.specs.declared.step.Home.{Home}
use Rattle.vg_firm.specs.declared.step.Home.TheVariants.{Ram, Flash}
use Rattle.vg_flatten_shapes.specs.declared.layout.Place.{Place}
use Rattle.vg_placement.specs.declared.column.Held.{Held}
use Rattle.vg_placement.specs.declared.column.Held.TheVariants.{Initial, Field as TheField, Elements as TheItems, Table as TheTable}

abbrev pub place_if : Home → Place → List Place
place_if Ram p = p ∷ []
place_if Flash p = []

abbrev pub address_if : Held → (address : ℕ) → List ℕ
address_if (TheTable t) a = a ∷ []
address_if Initial a = []
address_if (TheField f) a = []
address_if (TheItems t) a = []
