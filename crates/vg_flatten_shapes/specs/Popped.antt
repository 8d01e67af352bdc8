-- The newest home is taken, or so many of them: mirrors.
use Rattle.std.specs.Prelude.{◌≡◌, ℕ, List, [], ◌∷◌, Option, Some, None}
use Rattle.vg_lin.specs.declared.instr.Operand.{Operand}
use Rattle.vg_flatten_shapes.specs.Shapes.{Shape, taken}

abbrev pub Pops : Option Operand → Shape → Shape → Type 0
Pops (Some h) old new = old ≡ record { truth = new.truth; homes = h ∷ new.homes }
Pops None old new = (old.homes ≡ []) × (new ≡ old)

abbrev pub Takes : Option (List Operand) → (count : ℕ) → Shape → Shape → Type 0
Takes (Some xs) count old new = (taken count old.homes ≡ Some (record { args = xs; rest = new.homes })) × (new.truth ≡ old.truth)
Takes None count old new = (taken count old.homes ≡ None) × (new ≡ old)
