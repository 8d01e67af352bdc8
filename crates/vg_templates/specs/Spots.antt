-- Where a local lies: in bytes of its procedure's frame, or in registers.
use Rattle.std.specs.Prelude.{ℕ, zero, suc, ◌+◌, ◌*◌, ◌/◌, ◌%◌, ◌≤◌, ◌⊎◌, List, slice_index, slice_set}
use Rattle.avr_view.specs.Registers.{Regs, put}

-- the number of so many bytes from a place on, low byte first
abbrev pub read : (bytes : List ℕ) (at width : ℕ) → ℕ
read bytes at zero = 0
read bytes at (suc w) = slice_index bytes at + 256 * read bytes (suc at) w

-- the number in so many registers, low byte in the first
abbrev pub number : Regs → (first width : ℕ) → ℕ
number g r zero = 0
number g r (suc w) = g.of r + 256 * number g (suc r) w

-- an index of the frame, or the first register
pub data Spot : Type 0 where
  InFrame : (at : ℕ) → Spot
  InRegisters : (first : ℕ) → Spot

-- the value at a spot
abbrev pub value_at : Spot → (width : ℕ) → (frame : List ℕ) → Regs → ℕ
value_at (InFrame at) w frame g = read frame at w
value_at (InRegisters r) w frame g = number g r w

-- two spots that share no byte
abbrev pub Apart : Spot → ℕ → Spot → ℕ → Type 0
Apart (InFrame a) w (InFrame b) n = (b + n ≤ a) ⊎ (a + w ≤ b)
Apart (InRegisters a) w (InRegisters b) n = (b + n ≤ a) ⊎ (a + w ≤ b)
Apart _ w _ n = Unit {0}

-- bytes with a number written from a place on, and registers with one from a register on, low byte first; it is cut to the width
abbrev pub written : (bytes : List ℕ) (at width value : ℕ) → List ℕ
written bytes at zero v = bytes
written bytes at (suc w) v = written (slice_set bytes at (v % 256)) (suc at) w (v / 256)

abbrev pub put_number : Regs → (first width value : ℕ) → Regs
put_number g r zero v = g
put_number g r (suc w) v = put_number (put g r (v % 256)) (suc r) w (v / 256)

-- a frame and registers once a number was put at a spot
abbrev pub frame_with : Spot → (width : ℕ) → List ℕ → (value : ℕ) → List ℕ
frame_with (InFrame at) w frame v = written frame at w v
frame_with (InRegisters r) w frame v = frame

abbrev pub registers_with : Spot → (width : ℕ) → Regs → (value : ℕ) → Regs
registers_with (InFrame at) w g v = g
registers_with (InRegisters r) w g v = put_number g r w v
