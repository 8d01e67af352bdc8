-- The registers and the flags as the code sees them, and what the instructions do that touch nothing else.
use Rattle.std.specs.Prelude.{ℕ, ◌≡◌, ◌+◌, ◌-◌, ◌*◌, ◌/◌, ◌%◌, ◌<◌, ◌&&◌, ◌==◌, nat_le, if◌then◌else◌, List, [], ◌∷◌, length, slice_index}
use Rattle.std.specs.Prelude.{bit_and, bit_or, bit_xor}
use Rattle.avr_instr.specs.declared.instr.Instr.{Instr}
use Rattle.avr_instr.specs.declared.instr.Instr.TheVariants.{Adc, Add, Adiw, And, Andi, Asr, Com, Cp, Cpc, Cpi, Dec, Eor, Inc, Ldi, LpmZ, LpmZPlus}
use Rattle.avr_instr.specs.declared.instr.Instr.TheVariants.{Lsr, Mov, Movw, Mul, Neg, Nop, Or, Ori, Ror, Sbc, Sbci, Sbiw, Sub, Subi}
use Rattle.avr_isa.specs.declared.flags.Flags.{Flags}
use Rattle.avr_isa.specs.Cpu.{flash_byte}
use Rattle.avr_isa.specs.Flags.{number, with_flags, sum_of, flags_of_sum, difference_of, flags_of_difference, flags_of_logic, flags_of_complement}
use Rattle.avr_isa.specs.Flags.{flags_of_count, flags_of_shift, flags_of_wide_sum, flags_of_wide_difference}

-- what each register holds, by its number from 0 to 31, and the flags
pub record Regs : Type 0 where
  pub of : ℕ → ℕ
  pub flags : Flags

-- these are the 32 registers of a processor and its SREG, with T and I clear
pub record Shows (r : Regs) (registers : List ℕ) (sreg : ℕ) : Type 0 where
  pub count : length registers ≡ 32
  pub each : (d : ℕ) → d < 32 → slice_index registers d ≡ r.of d
  pub flags : sreg ≡ with_flags 0 r.flags

abbrev pub put : Regs → (d value : ℕ) → Regs
put r d value = record r { of = λ n. if n == d then value else r.of n }

abbrev pub flagged : Regs → Flags → Regs
flagged r flags = record r { flags = flags }

-- a value in the register d, and flags
abbrev pub result : Regs → (d value : ℕ) → Flags → Regs
result r d value flags = flagged (put r d value) flags

-- two registers as one number, the low byte in the first: X is 26, Y is 28, Z is 30
abbrev pub pair : Regs → ℕ → ℕ
pair r d = r.of d + 256 * r.of (d + 1)

abbrev pub put_pair : Regs → (d value : ℕ) → Regs
put_pair r d value = put (put r d (value % 256)) (d + 1) (value / 256)

-- a pointer with 1 added
abbrev pub put_next : Regs → ℕ → Regs
put_next r d = put_pair r d ((pair r d + 1) % 65536)

-- the carry as a number
abbrev pub carried : Regs → ℕ
carried r = number r.flags.carry

-- flags of which Z stays set only where it was set; of which H stays; of which H and C stay
abbrev pub sticky_zero : Regs → Flags → Flags
sticky_zero r f = record f { zero = f.zero && r.flags.zero }

abbrev pub old_half : Regs → Flags → Flags
old_half r f = record f { half_carry = r.flags.half_carry }

abbrev pub old_carries : Regs → Flags → Flags
old_carries r f = record f { half_carry = r.flags.half_carry; carry = r.flags.carry }

-- Rd ← Rd + b + carry; Rd ← Rd - b; Rd ← Rd - b - C
abbrev pub sums : Regs → (d b carry : ℕ) → Regs
sums r d b carry = result r d (sum_of (r.of d) b carry) (flags_of_sum (r.of d) b carry)

abbrev pub takes : Regs → (d b : ℕ) → Regs
takes r d b = result r d (difference_of (r.of d) b 0) (flags_of_difference (r.of d) b 0)

abbrev pub takes_on : Regs → (d b : ℕ) → Regs
takes_on r d b = result r d (difference_of (r.of d) b (carried r)) (sticky_zero r (flags_of_difference (r.of d) b (carried r)))

-- Rd ← value, by a logical operation, by a shift to the right, and by counting
abbrev pub combines : Regs → (d value : ℕ) → Regs
combines r d value = result r d value (old_carries r (flags_of_logic 0 value))

abbrev pub shifts : Regs → (d value : ℕ) → Regs
shifts r d value = result r d value (old_half r (flags_of_shift 0 (r.of d) value))

abbrev pub counts : Regs → (d value overflows_to : ℕ) → Regs
counts r d value overflows_to = result r d value (old_carries r (flags_of_count 0 value overflows_to))

-- r1:r0 ← product, with bit 15 of it in C
abbrev pub multiplies : Regs → ℕ → Regs
multiplies r product = flagged (put_pair r 0 product) (record r.flags { zero = product == 0; carry = nat_le 0x8000 product })

-- what an instruction does that touches registers and flags alone, on this flash (AVR Instruction Set Manual); others are not meant
abbrev pub does : (flash : List ℕ) → Instr → Regs → Regs
does flash (Adc d s) r = sums r d (r.of s) (carried r)
does flash (Add d s) r = sums r d (r.of s) 0
does flash (Adiw d k) r = flagged (put_pair r d ((pair r d + k) % 65536)) (old_half r (flags_of_wide_sum 0 (pair r d) k))
does flash (And d s) r = combines r d (bit_and (r.of d) (r.of s))
does flash (Andi d k) r = combines r d (bit_and (r.of d) k)
does flash (Asr d) r = shifts r d (r.of d / 2 + r.of d / 128 * 128)
does flash (Com d) r = result r d (255 - r.of d) (old_half r (flags_of_complement 0 (255 - r.of d)))
does flash (Cp d s) r = flagged r (flags_of_difference (r.of d) (r.of s) 0)
does flash (Cpc d s) r = flagged r (sticky_zero r (flags_of_difference (r.of d) (r.of s) (carried r)))
does flash (Cpi d k) r = flagged r (flags_of_difference (r.of d) k 0)
does flash (Dec d) r = counts r d ((r.of d + 255) % 256) 0x7F
does flash (Eor d s) r = combines r d (bit_xor (r.of d) (r.of s))
does flash (Inc d) r = counts r d ((r.of d + 1) % 256) 0x80
does flash (Ldi d k) r = put r d k
does flash (LpmZ d) r = put r d (flash_byte flash (pair r 30))
does flash (LpmZPlus d) r = put_next (put r d (flash_byte flash (pair r 30))) 30
does flash (Lsr d) r = shifts r d (r.of d / 2)
does flash (Mov d s) r = put r d (r.of s)
does flash (Movw d s) r = put (put r d (r.of s)) (d + 1) (r.of (s + 1))
does flash (Mul d s) r = multiplies r (r.of d * r.of s)
does flash (Neg d) r = result r d (difference_of 0 (r.of d) 0) (flags_of_difference 0 (r.of d) 0)
does flash Nop r = r
does flash (Or d s) r = combines r d (bit_or (r.of d) (r.of s))
does flash (Ori d k) r = combines r d (bit_or (r.of d) k)
does flash (Ror d) r = shifts r d (r.of d / 2 + carried r * 128)
does flash (Sbc d s) r = takes_on r d (r.of s)
does flash (Sbci d k) r = takes_on r d k
does flash (Sbiw d k) r = flagged (put_pair r d ((pair r d + 65536 - k) % 65536)) (old_half r (flags_of_wide_difference 0 (pair r d) k))
does flash (Sub d s) r = takes r d (r.of s)
does flash (Subi d k) r = takes r d k
does flash _ r = r

-- an instruction that touches registers and flags alone
abbrev pub IsPlain : Instr → Type 0
IsPlain (Adc d s) = Unit {0}
IsPlain (Add d s) = Unit {0}
IsPlain (Adiw d k) = Unit {0}
IsPlain (And d s) = Unit {0}
IsPlain (Andi d k) = Unit {0}
IsPlain (Asr d) = Unit {0}
IsPlain (Com d) = Unit {0}
IsPlain (Cp d s) = Unit {0}
IsPlain (Cpc d s) = Unit {0}
IsPlain (Cpi d k) = Unit {0}
IsPlain (Dec d) = Unit {0}
IsPlain (Eor d s) = Unit {0}
IsPlain (Inc d) = Unit {0}
IsPlain (Ldi d k) = Unit {0}
IsPlain (LpmZ d) = Unit {0}
IsPlain (LpmZPlus d) = Unit {0}
IsPlain (Lsr d) = Unit {0}
IsPlain (Mov d s) = Unit {0}
IsPlain (Movw d s) = Unit {0}
IsPlain (Mul d s) = Unit {0}
IsPlain (Neg d) = Unit {0}
IsPlain Nop = Unit {0}
IsPlain (Or d s) = Unit {0}
IsPlain (Ori d k) = Unit {0}
IsPlain (Ror d) = Unit {0}
IsPlain (Sbc d s) = Unit {0}
IsPlain (Sbci d k) = Unit {0}
IsPlain (Sbiw d k) = Unit {0}
IsPlain (Sub d s) = Unit {0}
IsPlain (Subi d k) = Unit {0}
IsPlain _ = ⊥

-- a block of them
abbrev pub does_all : (flash : List ℕ) → List Instr → Regs → Regs
does_all flash [] r = r
does_all flash (i ∷ is) r = does_all flash is (does flash i r)

abbrev pub ArePlain : List Instr → Type 0
ArePlain [] = Unit {0}
ArePlain (i ∷ is) = IsPlain i × ArePlain is
