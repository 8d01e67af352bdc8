-- Operands that are there, and registers of locals.
use Rattle.std.specs.Prelude.{ℕ, ◌+◌, ◌<◌, ◌≤◌, length, Option, Some, None}
use Rattle.vg_lin.specs.declared.instr.Operand.{Operand}
use Rattle.vg_lin.specs.declared.instr.Operand.TheVariants.{Local, Known}
use Rattle.vg_templates.specs.Layouts.{Layout}

-- a local of the procedure, or a known value
abbrev pub IsThere : Layout → Operand → Type 0
IsThere l (Local k) = k < length l.widths
IsThere l (Known x) = Unit {0}

-- the first of the registers in which a local lies, which takes so many bytes
abbrev pub IsHome : Option ℕ → (width count : ℕ) → Type 0
IsHome None w n = Unit {0}
IsHome (Some r) w n = (2 ≤ r) × (r + w ≤ 18) × (n ≤ w)
