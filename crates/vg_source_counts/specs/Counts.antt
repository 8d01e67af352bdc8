-- That the methods of a source program take and leave their values in order.
use Rattle.std.specs.Prelude.{◌+◌, false, List, [], ◌∷◌}
use Rattle.vg_code_counts.specs.Counted.{Counted}
use Rattle.vg_source.specs.Steps.{Routine}
use Rattle.vg_method_sizes.specs.Sizes.{Size}
use Rattle.vg_source_counts.specs.Measures.{source_measures}

-- The body of each of these routines does so, and at most two values more wait in it than the method whose size stands at its place has
-- nodes. Nothing waits where it begins and ends.
abbrev pub AreCounted : List Routine → List Size → Type 0
AreCounted [] [] = Unit {0}
AreCounted (r ∷ rs) (s ∷ ss) = Counted source_measures (s.nodes + 2) false 0 r.body 0 0 × AreCounted rs ss
AreCounted _ _ = ⊥
