-- Numbers in lists of registers, low byte first. A register may stand there several times, as r1 does for zeros.
use Rattle.std.specs.Prelude.{ℕ, ◌+◌, ◌*◌, ◌<◌, ◌≤◌, ◌⊎◌, List, [], ◌∷◌}
use Rattle.avr_view.specs.Registers.{Regs}

abbrev pub number_in : Regs → List ℕ → ℕ
number_in g [] = 0
number_in g (r ∷ rs) = g.of r + 256 * number_in g rs

-- each of the 32 registers holds a byte
abbrev pub HoldBytes : Regs → Type 0
HoldBytes g = (r : ℕ) → r < 32 → g.of r < 256

-- registers below one, or from another on
abbrev pub AreBeside : (low high : ℕ) → List ℕ → Type 0
AreBeside low high [] = Unit {0}
AreBeside low high (r ∷ rs) = (((r < low) ⊎ (high ≤ r)) × (r < 32)) × AreBeside low high rs

-- registers of the chip
abbrev pub AreRegisters : List ℕ → Type 0
AreRegisters [] = Unit {0}
AreRegisters (r ∷ rs) = (r < 32) × AreRegisters rs
