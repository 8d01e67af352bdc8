-- Where the bytes of an operand are found: in the registers of its local, in scratch registers into which they came, or, where they are zeros, in r1.
use Rattle.std.specs.Prelude.{ℕ, zero, suc, ◌/◌, ◌%◌, ◌==◌, if◌then◌else◌, List, [], ◌∷◌, ◌++◌}
use Rattle.avr_instr.specs.declared.instr.Instr.{Instr}
use Rattle.avr_instr.specs.declared.instr.Instr.TheVariants.{Ldi}
use Rattle.vg_lin.specs.declared.instr.Operand.{Operand}
use Rattle.vg_lin.specs.declared.instr.Operand.TheVariants.{Local, Known}
use Rattle.vg_templates.specs.Spots.{Spot, InFrame, InRegisters}
use Rattle.vg_templates.specs.Layouts.{Layout, width_of}
use Rattle.vg_templates.specs.Transfers.{fetch}

-- the lesser of two widths
abbrev pub least : (w n : ℕ) → ℕ
least zero n = zero
least (suc w) zero = zero
least (suc w) (suc n) = suc (least w n)

-- so many registers from one on, as far as a width goes, and r1 behind it
abbrev pub padded : (first width count : ℕ) → List ℕ
padded r w zero = []
padded r zero (suc n) = 1 ∷ padded r zero n
padded r (suc w) (suc n) = r ∷ padded (suc r) w n

-- the bytes of a known number that are not zero, and the registers that hold all of them
abbrev pub known_bytes : (d count value : ℕ) → List Instr
known_bytes d zero v = []
known_bytes d (suc n) v = (if v % 256 == 0 then [] else Ldi d (v % 256) ∷ []) ++ known_bytes (suc d) n (v / 256)

abbrev pub known_registers : (d count value : ℕ) → List ℕ
known_registers d zero v = []
known_registers d (suc n) v = (if v % 256 == 0 then 1 else d) ∷ known_registers (suc d) n (v / 256)

-- the code that finds the low bytes of a value at a spot, with scratch registers from d on, and where they are then
abbrev pub finds_spot : Spot → (width d count : ℕ) → List Instr
finds_spot (InFrame at) w d n = fetch (InFrame at) w d (least w n)
finds_spot (InRegisters r) w d n = []

abbrev pub spot_found : Spot → (width d count : ℕ) → List ℕ
spot_found (InFrame at) w d n = padded d w n
spot_found (InRegisters r) w d n = padded r w n

-- the same of an operand
abbrev pub finds : Layout → Operand → (d count : ℕ) → List Instr
finds l (Local k) d n = finds_spot (l.spots k) (width_of l k) d n
finds l (Known x) d n = known_bytes d n x

abbrev pub found_in : Layout → Operand → (d count : ℕ) → List ℕ
found_in l (Local k) d n = spot_found (l.spots k) (width_of l k) d n
found_in l (Known x) d n = known_registers d n x
