-- Where code makes a value that goes to a local: in registers of the local's own, if it has them for all bytes of the value, or else in r22 and behind it.
use Rattle.std.specs.Prelude.{ℕ, ◌+◌, ◌-◌, ◌≡◌, ◌≤◌, Bool, true, ◌||◌, nat_le, if◌then◌else◌, Option, Some, None, List}
use Rattle.avr_instr.specs.declared.instr.Instr.{Instr}
use Rattle.vg_templates.specs.Spots.{Spot, InFrame, InRegisters}
use Rattle.vg_templates.specs.Layouts.{Layout, width_of}
use Rattle.vg_templates.specs.Transfers.{clears}
use Rattle.vg_templates.specs.Held.{gives}

-- the first register of a spot of registers that takes so many bytes
abbrev pub home : Spot → (width count : ℕ) → Option ℕ
home (InFrame at) w n = None
home (InRegisters r) w n = if nat_le n w then Some r else None

abbrev pub home_of : Layout → (to count : ℕ) → Option ℕ
home_of l to n = home (l.spots to) (width_of l to) n

-- the first register in which the value is made
abbrev pub made_in : Option ℕ → ℕ
made_in None = 22
made_in (Some r) = r

-- what is left to do then: the number goes to the local, or zeros come behind it there
abbrev pub settles : Layout → (to : ℕ) → Option ℕ → (count : ℕ) → List Instr
settles l to None n = gives l to 22 n
settles l to (Some r) n = clears (r + n) (width_of l to - n)

-- a home is one: the first register of the local, which takes so many bytes
abbrev pub IsHome : Layout → (to count : ℕ) → Option ℕ → Type 0
IsHome l to n None = Unit {0}
IsHome l to n (Some r) = (l.spots to ≡ InRegisters r) × (n ≤ width_of l to)

-- whether no byte of a spot is in so many registers from one on; and a home of which this holds
abbrev pub is_clear : Spot → (width first count : ℕ) → Bool
is_clear (InFrame at) w r n = true
is_clear (InRegisters f) w r n = nat_le (f + w) r || nat_le (r + n) f

abbrev pub clear_home : Spot → (width count : ℕ) → Option ℕ → Option ℕ
clear_home s w n None = None
clear_home s w n (Some r) = if is_clear s w r n then Some r else None
