-- Parameters that arrive in registers.
use Rattle.std.specs.Prelude.{ℕ, suc, ◌+◌, ◌<◌, ◌≤◌, Bool, List, [], ◌∷◌, length}
use Rattle.vg_templates.specs.Layouts.{Layout, width_of}

-- From a parameter and a register on, all that arrive are locals, and have registers.
abbrev pub HaveRoom : Layout → (param first : ℕ) → (kept : List Bool) → Type 0
HaveRoom l k r [] = Unit {0}
HaveRoom l k r (b ∷ bs) = (k < 255) × (k < length l.widths) × (r + width_of l k ≤ 32) × HaveRoom l (suc k) (r + width_of l k) bs
