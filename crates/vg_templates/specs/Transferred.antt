-- What code has made of a view that brings a value from a spot, or to one. Z and the flags may have changed.
use Rattle.std.specs.Prelude.{ℕ, ◌≡◌, ◌+◌, ◌%◌, ◌^◌, ◌<◌, ◌≤◌, ◌⊎◌, List, ◌++◌, length}
use Rattle.avr_view.specs.Registers.{pair}
use Rattle.avr_view.specs.View.{View}
use Rattle.vg_templates.specs.Spots.{Spot, InFrame, InRegisters, number, frame_with, registers_with}

-- A spot of one to four bytes can be used: Y points before the frame where it lies there, and it is within the frame; or it is in r2 to r17.
abbrev pub IsUsable : Spot → (width : ℕ) → (own under : List ℕ) → View → Type 0
IsUsable (InFrame at) w own under v = (pair v.regs 28 + 1 + length (own ++ under) ≡ 0x1100) × (at + w ≤ length own)
IsUsable (InRegisters r) w own under v = (2 ≤ r) × (r + w ≤ 18)

-- so many registers from d on hold the low bytes of a value, and of all others Z alone may have changed
pub record Fetched (d count value : ℕ) (old new : View) : Type 0 where
  pub others : (x : ℕ) → x < 30 → (x < d) ⊎ (d + count ≤ x) → new.regs.of x ≡ old.regs.of x
  pub holds : number new.regs d count ≡ value % 256 ^ count
  pub same : new ≡ record old { regs = new.regs }

-- a spot holds a value, cut to its width, and nothing else has changed but Z
pub record Kept (spot : Spot) (width value : ℕ) (wait own under : List ℕ) (old new : View) : Type 0 where
  pub registers : (x : ℕ) → x < 30 → new.regs.of x ≡ (registers_with spot width old.regs value).of x
  pub same : new ≡ record old { regs = new.regs; stack = wait ++ (frame_with spot width own value ++ under) }
