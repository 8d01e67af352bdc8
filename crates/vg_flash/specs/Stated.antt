-- The stack of an image.
use Rattle.std.specs.Prelude.{ℕ, ◌-◌, Option, unwrap_or}

-- the stack that is stated: the one that is asked for, else all SRAM above the static area
abbrev pub stated : (asked : Option ℕ) → (static_bytes : ℕ) → ℕ
stated asked static_bytes = unwrap_or asked (4096 - static_bytes)
