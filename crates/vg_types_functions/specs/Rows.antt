-- Mirrors of the code: how a row goes on. No public clause cites them.
use Rattle.std.specs.Prelude.{ℕ, Bool, true, false, Option, Some, None}
use Rattle.vg_core.specs.declared.types.CoreType.{CoreType}
use Rattle.vg_core.specs.declared.types.CoreType.TheVariants.{NoType, MoreTypes}

-- The number of the first type of a row, and that of the row behind it.
abbrev pub parts_of : CoreType → Option (ℕ × ℕ)
parts_of (MoreTypes first rest) = Some (first, rest)
parts_of _ = None

-- The end of a row.
abbrev pub is_end : CoreType → Bool
is_end NoType = true
is_end _ = false
