-- Columns of fields.
use Rattle.std.specs.Prelude.{◌≡◌, ◌⊎◌, ℕ, List, [], ◌∷◌}
use Rattle.vg_placement.specs.declared.column.Column.{Column}
use Rattle.vg_placement.specs.declared.column.Held.TheVariants.{Field as TheField}

-- One of these columns holds the field f.
abbrev pub HaveField : (f : ℕ) → List Column → Type 0
HaveField f [] = ⊥
HaveField f (c ∷ cs) = (c.what ≡ TheField f) ⊎ HaveField f cs
