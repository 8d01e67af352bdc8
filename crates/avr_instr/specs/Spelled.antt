-- How words spell instructions, as the AVR Instruction Set Manual prints their bits.
use Rattle.std.specs.Prelude.{ℕ, ◌≡◌, ◌≢◌, ◌+◌, ◌-◌, ◌*◌, ◌/◌, ◌%◌, ◌<◌, ◌≤◌, Option, Some, None}
use Rattle.avr_instr.specs.declared.operand.Base.{Base}
use Rattle.avr_instr.specs.declared.operand.Base.TheVariants.{Y, Z}
use Rattle.avr_instr.specs.declared.instr.Instr.{Instr}
use Rattle.avr_instr.specs.declared.instr.Instr.TheVariants.{Adc, Add, Adiw, And, Andi, Asr, Brbc, Brbs, Call, Cli, Com, Cp, Cpc, Cpi, Dec, Eor}
use Rattle.avr_instr.specs.declared.instr.Instr.TheVariants.{Icall, Ijmp, In, Inc, Jmp, LdX, LdXPlus, LdMinusX, Ldd, Ldi, Lds, LpmZ, LpmZPlus, Lsr}
use Rattle.avr_instr.specs.declared.instr.Instr.TheVariants.{Mov, Movw, Mul, Neg, Nop, Or, Ori, Out, Pop, Push, Rcall, Ret, Reti, Rjmp, Ror, Sbc}
use Rattle.avr_instr.specs.declared.instr.Instr.TheVariants.{Sbci, Sbiw, Sei, Sleep, StX, StXPlus, StMinusX, Std, Sts, Sub, Subi}

-- one of r0 to r31
abbrev pub IsRegister : ℕ → Type 0
IsRegister d = d < 32

abbrev pub AreRegisters : ℕ → ℕ → Type 0
AreRegisters d r = IsRegister d × IsRegister r

-- one of r0 to r31 that is not in X, and one that is not in Z
abbrev pub IsBesideX : ℕ → Type 0
IsBesideX d = (d < 32) × (d ≢ 26) × (d ≢ 27)

abbrev pub IsBesideZ : ℕ → Type 0
IsBesideZ d = d < 30

-- two registers, the first of an even number
abbrev pub IsPair : ℕ → Type 0
IsPair d = (d < 32) × (d % 2 ≡ 0)

-- r24 and r25, X, Y or Z, by the number of the first
abbrev pub IsWidePair : ℕ → Type 0
IsWidePair d = (24 ≤ d) × (d < 32) × (d % 2 ≡ 0)

abbrev pub IsByte : ℕ → Type 0
IsByte k = k < 256

abbrev pub IsWord : ℕ → Type 0
IsWord k = k < 65536

-- a number of six bits: the address of an I/O register, a displacement, a small constant
abbrev pub IsSixBits : ℕ → Type 0
IsSixBits a = a < 64

-- one of r16 to r31, and a constant
abbrev pub IsUpper : ℕ → Type 0
IsUpper d = (16 ≤ d) × (d < 32)

abbrev pub AreUpperAndByte : ℕ → ℕ → Type 0
AreUpperAndByte d k = IsUpper d × IsByte k

-- a bit of SREG, and the seven bits of a branch's offset
abbrev pub AreFlagAndOffset : ℕ → ℕ → Type 0
AreFlagAndOffset s k = (s < 8) × (k < 128)

-- the offset of a relative jump or call has twelve bits
abbrev pub IsFarOffset : ℕ → Type 0
IsFarOffset k = k < 4096

-- the operands are in the ranges of their kinds
abbrev pub InRange : Instr → Type 0
InRange (Adc d r) = AreRegisters d r
InRange (Add d r) = AreRegisters d r
InRange (Adiw d k) = IsWidePair d × IsSixBits k
InRange (And d r) = AreRegisters d r
InRange (Andi d k) = AreUpperAndByte d k
InRange (Asr d) = IsRegister d
InRange (Brbc s k) = AreFlagAndOffset s k
InRange (Brbs s k) = AreFlagAndOffset s k
InRange (Call k) = IsWord k
InRange Cli = Unit {0}
InRange (Com d) = IsRegister d
InRange (Cp d r) = AreRegisters d r
InRange (Cpc d r) = AreRegisters d r
InRange (Cpi d k) = AreUpperAndByte d k
InRange (Dec d) = IsRegister d
InRange (Eor d r) = AreRegisters d r
InRange Icall = Unit {0}
InRange Ijmp = Unit {0}
InRange (In d a) = IsRegister d × IsSixBits a
InRange (Inc d) = IsRegister d
InRange (Jmp k) = IsWord k
InRange (LdX d) = IsRegister d
InRange (LdXPlus d) = IsBesideX d
InRange (LdMinusX d) = IsBesideX d
InRange (Ldd d b q) = IsRegister d × IsSixBits q
InRange (Ldi d k) = AreUpperAndByte d k
InRange (Lds d k) = IsRegister d × IsWord k
InRange (LpmZ d) = IsRegister d
InRange (LpmZPlus d) = IsBesideZ d
InRange (Lsr d) = IsRegister d
InRange (Mov d r) = AreRegisters d r
InRange (Movw d r) = IsPair d × IsPair r
InRange (Mul d r) = AreRegisters d r
InRange (Neg d) = IsRegister d
InRange Nop = Unit {0}
InRange (Or d r) = AreRegisters d r
InRange (Ori d k) = AreUpperAndByte d k
InRange (Out a r) = IsSixBits a × IsRegister r
InRange (Pop d) = IsRegister d
InRange (Push r) = IsRegister r
InRange (Rcall k) = IsFarOffset k
InRange Ret = Unit {0}
InRange Reti = Unit {0}
InRange (Rjmp k) = IsFarOffset k
InRange (Ror d) = IsRegister d
InRange (Sbc d r) = AreRegisters d r
InRange (Sbci d k) = AreUpperAndByte d k
InRange (Sbiw d k) = IsWidePair d × IsSixBits k
InRange Sei = Unit {0}
InRange Sleep = Unit {0}
InRange (StX r) = IsRegister r
InRange (StXPlus r) = IsBesideX r
InRange (StMinusX r) = IsBesideX r
InRange (Std b q r) = IsSixBits q × IsRegister r
InRange (Sts k r) = IsWord k × IsRegister r
InRange (Sub d r) = AreRegisters d r
InRange (Subi d k) = AreUpperAndByte d k

-- ---- --rd dddd rrrr
abbrev pub two_registers : (d r : ℕ) → ℕ
two_registers d r = r / 16 * 512 + d * 16 + r % 16

-- ---- KKKK dddd KKKK, where d counts from r16
abbrev pub with_constant : (d k : ℕ) → ℕ
with_constant d k = k / 16 * 256 + (d - 16) * 16 + k % 16

-- ---- ---- KKdd KKKK, where d counts the pairs from r24
abbrev pub with_pair : (d k : ℕ) → ℕ
with_pair d k = k / 16 * 64 + (d - 24) / 2 * 16 + k % 16

-- ---- -AAd dddd AAAA
abbrev pub with_address : (d a : ℕ) → ℕ
with_address d a = a / 16 * 512 + d * 16 + a % 16

-- --q- qq-d dddd yqqq, where y is 1 for Y
abbrev pub base_bit : Base → ℕ
base_bit Y = 1
base_bit Z = 0

abbrev pub with_displacement : (d y q : ℕ) → ℕ
with_displacement d y q = q / 32 * 8192 + q / 8 % 4 * 1024 + d * 16 + y * 8 + q % 8

-- the first word of an instruction
abbrev pub first_word : Instr → ℕ
first_word (Adc d r) = 0x1C00 + two_registers d r  -- 0001 11rd dddd rrrr
first_word (Add d r) = 0x0C00 + two_registers d r  -- 0000 11rd dddd rrrr
first_word (Adiw d k) = 0x9600 + with_pair d k  -- 1001 0110 KKdd KKKK
first_word (And d r) = 0x2000 + two_registers d r  -- 0010 00rd dddd rrrr
first_word (Andi d k) = 0x7000 + with_constant d k  -- 0111 KKKK dddd KKKK
first_word (Asr d) = 0x9405 + d * 16  -- 1001 010d dddd 0101
first_word (Brbc s k) = 0xF400 + k * 8 + s  -- 1111 01kk kkkk ksss
first_word (Brbs s k) = 0xF000 + k * 8 + s  -- 1111 00kk kkkk ksss
first_word (Call k) = 0x940E  -- 1001 010k kkkk 111k, where k has no bit above its sixteenth
first_word Cli = 0x94F8  -- 1001 0100 1111 1000
first_word (Com d) = 0x9400 + d * 16  -- 1001 010d dddd 0000
first_word (Cp d r) = 0x1400 + two_registers d r  -- 0001 01rd dddd rrrr
first_word (Cpc d r) = 0x0400 + two_registers d r  -- 0000 01rd dddd rrrr
first_word (Cpi d k) = 0x3000 + with_constant d k  -- 0011 KKKK dddd KKKK
first_word (Dec d) = 0x940A + d * 16  -- 1001 010d dddd 1010
first_word (Eor d r) = 0x2400 + two_registers d r  -- 0010 01rd dddd rrrr
first_word Icall = 0x9509  -- 1001 0101 0000 1001
first_word Ijmp = 0x9409  -- 1001 0100 0000 1001
first_word (In d a) = 0xB000 + with_address d a  -- 1011 0AAd dddd AAAA
first_word (Inc d) = 0x9403 + d * 16  -- 1001 010d dddd 0011
first_word (Jmp k) = 0x940C  -- 1001 010k kkkk 110k, where k has no bit above its sixteenth
first_word (LdX d) = 0x900C + d * 16  -- 1001 000d dddd 1100
first_word (LdXPlus d) = 0x900D + d * 16  -- 1001 000d dddd 1101
first_word (LdMinusX d) = 0x900E + d * 16  -- 1001 000d dddd 1110
first_word (Ldd d b q) = 0x8000 + with_displacement d (base_bit b) q  -- 10q0 qq0d dddd yqqq
first_word (Ldi d k) = 0xE000 + with_constant d k  -- 1110 KKKK dddd KKKK
first_word (Lds d k) = 0x9000 + d * 16  -- 1001 000d dddd 0000
first_word (LpmZ d) = 0x9004 + d * 16  -- 1001 000d dddd 0100
first_word (LpmZPlus d) = 0x9005 + d * 16  -- 1001 000d dddd 0101
first_word (Lsr d) = 0x9406 + d * 16  -- 1001 010d dddd 0110
first_word (Mov d r) = 0x2C00 + two_registers d r  -- 0010 11rd dddd rrrr
first_word (Movw d r) = 0x0100 + d / 2 * 16 + r / 2  -- 0000 0001 dddd rrrr
first_word (Mul d r) = 0x9C00 + two_registers d r  -- 1001 11rd dddd rrrr
first_word (Neg d) = 0x9401 + d * 16  -- 1001 010d dddd 0001
first_word Nop = 0  -- 0000 0000 0000 0000
first_word (Or d r) = 0x2800 + two_registers d r  -- 0010 10rd dddd rrrr
first_word (Ori d k) = 0x6000 + with_constant d k  -- 0110 KKKK dddd KKKK
first_word (Out a r) = 0xB800 + with_address r a  -- 1011 1AAr rrrr AAAA
first_word (Pop d) = 0x900F + d * 16  -- 1001 000d dddd 1111
first_word (Push r) = 0x920F + r * 16  -- 1001 001d dddd 1111
first_word (Rcall k) = 0xD000 + k  -- 1101 kkkk kkkk kkkk
first_word Ret = 0x9508  -- 1001 0101 0000 1000
first_word Reti = 0x9518  -- 1001 0101 0001 1000
first_word (Rjmp k) = 0xC000 + k  -- 1100 kkkk kkkk kkkk
first_word (Ror d) = 0x9407 + d * 16  -- 1001 010d dddd 0111
first_word (Sbc d r) = 0x0800 + two_registers d r  -- 0000 10rd dddd rrrr
first_word (Sbci d k) = 0x4000 + with_constant d k  -- 0100 KKKK dddd KKKK
first_word (Sbiw d k) = 0x9700 + with_pair d k  -- 1001 0111 KKdd KKKK
first_word Sei = 0x9478  -- 1001 0100 0111 1000
first_word Sleep = 0x9588  -- 1001 0101 1000 1000
first_word (StX r) = 0x920C + r * 16  -- 1001 001r rrrr 1100
first_word (StXPlus r) = 0x920D + r * 16  -- 1001 001r rrrr 1101
first_word (StMinusX r) = 0x920E + r * 16  -- 1001 001r rrrr 1110
first_word (Std b q r) = 0x8200 + with_displacement r (base_bit b) q  -- 10q0 qq1r rrrr yqqq
first_word (Sts k r) = 0x9200 + r * 16  -- 1001 001d dddd 0000
first_word (Sub d r) = 0x1800 + two_registers d r  -- 0001 10rd dddd rrrr
first_word (Subi d k) = 0x5000 + with_constant d k  -- 0101 KKKK dddd KKKK

-- the second word of an instruction that has one
abbrev pub second_word : Instr → Option ℕ
second_word (Call k) = Some k
second_word (Jmp k) = Some k
second_word (Lds d k) = Some k
second_word (Sts k r) = Some k
second_word _ = None

-- where an instruction has a second word, it is the one that follows
abbrev pub IsNext : Option ℕ → ℕ → Type 0
IsNext None next = Unit {0}
IsNext (Some second) next = next ≡ second

-- a word, with the one that follows it, spells an instruction
pub record Spelled (word next : ℕ) (i : Instr) : Type 0 where
  pub operands : InRange i
  pub first : word ≡ first_word i
  pub second : IsNext (second_word i) next
