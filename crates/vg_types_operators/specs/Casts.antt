-- The types that casts lead to.
use Rattle.vg_core.specs.declared.types.CoreType.{CoreType}
use Rattle.vg_core.specs.declared.types.CoreType.TheVariants.{NullType, MoreTypes}

-- A type that can be written as that of a value: not that of `null`, and no row.
abbrev pub IsTarget : CoreType → Type 0
IsTarget NullType = ⊥
IsTarget (MoreTypes t rest) = ⊥
IsTarget _ = Unit {0}
