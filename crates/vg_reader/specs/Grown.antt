-- Texts that only grow in number.
use Rattle.std.specs.Prelude.{ℕ, ◌≡◌, List, ◌++◌}

-- the new texts are the old ones, and perhaps some behind them
abbrev pub Grown : (old new : List (List ℕ)) → Type 0
Grown old new = (more : List (List ℕ)) × (new ≡ old ++ more)
