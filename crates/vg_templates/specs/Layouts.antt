-- What a procedure keeps where: its frame, the registers that it saves, and the spots of its locals.
use Rattle.std.specs.Prelude.{ℕ, ◌≡◌, ◌≢◌, ◌+◌, ◌<◌, ◌≤◌, ◌⊎◌, Bool, true, false, nat_le, List, [], ◌∷◌, length, slice_index}
use Rattle.avr_view.specs.Registers.{Regs}
use Rattle.vg_templates.specs.Spots.{Spot, InFrame, InRegisters, Apart}

-- The frame of a procedure, from its newest byte on: the slots of its locals, the saved registers with the one that was pushed last in
-- front, the two bytes of the return address with the high one in front, and the bytes of the arguments that were pushed. Arguments that were not
-- pushed arrive in registers.
pub record Layout : Type 0 where
  pub widths : List ℕ  -- of the locals, in bytes
  pub spots : ℕ → Spot  -- of each local
  pub slots : ℕ  -- the bytes of the slots
  pub saved : List ℕ  -- the registers that the procedure saves
  pub pointed : Bool  -- whether Y is its frame pointer, and points to the byte before the first slot
  pub pushed : ℕ  -- the bytes of the arguments that are pushed
  pub arrives : List Bool  -- of each parameter that arrives in registers, whether the procedure keeps it

-- how many bytes the return address and what it saves take, and the whole frame
abbrev pub link_size : Layout → ℕ
link_size l = length l.saved + 2

abbrev pub frame_size : Layout → ℕ
frame_size l = l.slots + link_size l + l.pushed

abbrev pub width_of : Layout → ℕ → ℕ
width_of l k = slice_index l.widths k

-- the registers that a procedure has for itself: those of locals, and Y; all others are scratch, which the code of any instruction may change
abbrev pub IsOwned : ℕ → Type 0
IsOwned d = ((2 ≤ d) × (d < 18)) ⊎ ((28 ≤ d) × (d < 30))

-- Of these, the registers whose values outlive a call: a procedure that changes them saves them first. It may change the others, r8 to r17, as it likes.
abbrev pub IsReliable : ℕ → Type 0
IsReliable d = ((2 ≤ d) × (d < 8)) ⊎ ((28 ≤ d) × (d < 30))

abbrev pub IsIn : ℕ → List ℕ → Type 0
IsIn d [] = ⊥
IsIn d (x ∷ xs) = (d ≡ x) ⊎ IsIn d xs

-- a spot whose value outlives a call
abbrev pub outlives : Spot → (width : ℕ) → Bool
outlives (InFrame at) w = true
outlives (InRegisters r) w = nat_le (r + w) 8

-- a spot in the frame, beside the link and with Y as frame pointer; or in registers, of which the reliable ones are saved
abbrev pub IsSpot : Layout → Spot → ℕ → Type 0
IsSpot l (InFrame at) w = (l.pointed ≡ true) × (at + w ≤ frame_size l) × ((l.slots + link_size l ≤ at) ⊎ (at + w ≤ l.slots))
IsSpot l (InRegisters r) w = (2 ≤ r) × (r + w ≤ 18) × ((d : ℕ) → r ≤ d → d < r + w → IsReliable d → IsIn d l.saved)

pub record IsLayout (l : Layout) : Type 0 where
  pub narrow : (k : ℕ) → k < length l.widths → width_of l k ≤ 4
  pub spot : (k : ℕ) → k < length l.widths → IsSpot l (l.spots k) (width_of l k)
  pub apart : (j k : ℕ) → j < length l.widths → k < length l.widths → j ≢ k → Apart (l.spots j) (width_of l j) (l.spots k) (width_of l k)
  pub pointer : l.pointed ≡ true → IsIn 28 l.saved × IsIn 29 l.saved
  pub no_pointer : l.pointed ≡ false → l.slots ≡ 0
  pub reliable : (d : ℕ) → IsIn d l.saved → IsReliable d
  pub small : l.slots < 0x1000

-- a procedure finds its registers as they were
abbrev pub Agree : (old new : Regs) → Type 0
Agree old new = (d : ℕ) → IsOwned d → new.of d ≡ old.of d

-- and so does one that waits, as far as they outlive a call
abbrev pub Outlive : (old new : Regs) → Type 0
Outlive old new = (d : ℕ) → IsReliable d → new.of d ≡ old.of d
