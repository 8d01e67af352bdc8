-- Costs that four bytes hold, with room to spare.
use Rattle.std.specs.Prelude.{ℕ, ◌<◌, ◌^◌, List}
use Rattle.std.specs.List.{AllByRecursion}

abbrev pub IsSmall : ℕ → Type 0
IsSmall c = c < 2 ^ 31

-- each of these costs is below 2^31
abbrev pub AreSmall : List ℕ → Type 0
AreSmall cs = AllByRecursion IsSmall cs
