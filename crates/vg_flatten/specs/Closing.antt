-- Instructions of which no jump out of a loop is left open.
use Rattle.std.specs.Prelude.{List, [], ◌∷◌}
use Rattle.vg_flatten_shapes.specs.declared.open.Open.{Open}
use Rattle.vg_flatten_shapes.specs.declared.open.Open.TheVariants.{Set}

abbrev pub IsSet : Open → Type 0
IsSet (Set i) = Unit {0}
IsSet _ = ⊥

abbrev pub AllSet : List Open → Type 0
AllSet [] = Unit {0}
AllSet (o ∷ os) = IsSet o × AllSet os
