-- The code that brings values from their spots into scratch registers, and from there to spots. Between the instructions of linear code r1 holds zero.
use Rattle.std.specs.Prelude.{ℕ, zero, suc, ◌+◌, ◌-◌, ◌/◌, ◌%◌, Bool, true, false, ◌&&◌, ◌==◌, nat_lt, if◌then◌else◌, List, [], ◌∷◌, ◌++◌}
use Rattle.avr_instr.specs.declared.instr.Instr.{Instr}
use Rattle.avr_instr.specs.declared.instr.Instr.TheVariants.{Adiw, Ldd, Ldi, Mov, Movw, Sbci, Std, Subi}
use Rattle.avr_instr.specs.declared.operand.Base.{Base}
use Rattle.avr_instr.specs.declared.operand.Base.TheVariants.{Y, Z}
use Rattle.vg_templates.specs.Spots.{Spot, InFrame, InRegisters}

-- zeros in so many registers from one on
abbrev pub clears : (d count : ℕ) → List Instr
clears d zero = []
clears d (suc n) = Mov d 1 ∷ clears (suc d) n

-- the low bytes of a known number, one after the other, in registers from r16 on: as many instructions whatever the number
abbrev pub known : (d count value : ℕ) → List Instr
known d zero v = []
known d (suc n) v = Ldi d (v % 256) ∷ known (suc d) n (v / 256)

-- Whether four bytes, in registers from an even one on, are two bytes twice, as those of zero: the upper two come from the lower ones at once.
abbrev pub is_twice : (d count value : ℕ) → Bool
is_twice d n v = ((n == 4) && (d % 2 == 0)) && (v % 65536 == v / 65536 % 65536)

abbrev pub known_by : (twice : Bool) → (d count value : ℕ) → List Instr
known_by true d n v = Ldi d (v % 256) ∷ Ldi (suc d) (v / 256 % 256) ∷ Movw (suc (suc d)) d ∷ []
known_by false d n v = known d n v

-- the low bytes of a known number, in as few instructions
abbrev pub known_number : (d count value : ℕ) → List Instr
known_number d n v = known_by (is_twice d n v) d n v

-- two registers in one instruction, where both pairs begin at even ones
abbrev pub moves_two : (r d : ℕ) → List Instr
moves_two r d = if (r % 2 == 0) && (d % 2 == 0) then Movw d r ∷ [] else Mov d r ∷ Mov (suc d) (suc r) ∷ []

-- the number in `width` registers from r on goes to `count` ones from d on: low bytes alone where these are fewer, and zeros behind it where they are more
abbrev pub moves : (r d width count : ℕ) → List Instr
moves r d zero n = clears d n
moves r d (suc w) zero = []
moves r d (suc zero) (suc n) = Mov d r ∷ clears (suc d) n
moves r d (suc (suc w)) (suc zero) = Mov d r ∷ []
moves r d (suc (suc w)) (suc (suc n)) = moves_two r d ++ moves (suc (suc r)) (suc (suc d)) w n

-- the same from bytes of SRAM, from a displacement of a pointer on
abbrev pub loads : Base → (q d width count : ℕ) → List Instr
loads b q d zero n = clears d n
loads b q d (suc w) zero = []
loads b q d (suc w) (suc n) = Ldd d b q ∷ loads b (suc q) (suc d) w n

-- the number in `count` registers from r on goes to `width` bytes there
abbrev pub stores : Base → (q r width count : ℕ) → List Instr
stores b q r zero n = []
stores b q r (suc w) zero = Std b q 1 ∷ stores b (suc q) r w zero
stores b q r (suc w) (suc n) = Std b q r ∷ stores b (suc q) (suc r) w n

-- How the bytes of a frame from an index on are reached: a pointer that the code sets, and the displacement of the first byte there. LDD and STD reach
-- 63 bytes from Y, the frame pointer, on; Z is set 60 bytes further, or to the byte itself.
pub record Reach : Type 0 where
  pub code : List Instr
  pub base : Base
  pub displacement : ℕ

abbrev pub reach_by : (near middle : Bool) (at : ℕ) → Reach
reach_by true middle at = record { code = []; base = Y; displacement = suc at }
reach_by false true at = record { code = Movw 30 28 ∷ Adiw 30 60 ∷ []; base = Z; displacement = suc at - 60 }
reach_by false false at =
    record { code = Movw 30 28 ∷ Subi 30 ((65535 - at) % 256) ∷ Sbci 31 ((65535 - at) / 256) ∷ []; base = Z; displacement = 0 }

abbrev pub reach : (at width : ℕ) → Reach
reach at w = reach_by (nat_lt (at + w) 64) (nat_lt (at + w) 124) at

-- the value at a spot of `width` bytes comes into `count` registers from d on
abbrev pub fetch : Spot → (width d count : ℕ) → List Instr
fetch (InFrame at) w d n = (reach at w).code ++ loads (reach at w).base (reach at w).displacement d w n
fetch (InRegisters r) w d n = moves r d w n

-- the number in `count` registers from r on goes to a spot of `width` bytes
abbrev pub keep : Spot → (width r count : ℕ) → List Instr
keep (InFrame at) w r n = (reach at w).code ++ stores (reach at w).base (reach at w).displacement r w n
keep (InRegisters d) w r n = moves r d n w
