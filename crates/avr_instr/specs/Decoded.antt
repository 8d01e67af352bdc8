-- The instruction that two words spell, as a function: it is the one that Spelled names, and None where Spelled names none.
use Rattle.std.specs.Prelude.{ℕ, ◌+◌, ◌*◌, ◌/◌, ◌%◌, ◌&&◌, ◌==◌, Bool, not, nat_lt, Option, Some, None, if◌then◌else◌}
use Rattle.avr_instr.specs.declared.operand.Base.{Base}
use Rattle.avr_instr.specs.declared.operand.Base.TheVariants.{Y, Z}
use Rattle.avr_instr.specs.declared.instr.Instr.{Instr}
use Rattle.avr_instr.specs.declared.instr.Instr.TheVariants.{Adc, Add, Adiw, And, Andi, Asr, Brbc, Brbs, Call, Cli, Com, Cp, Cpc, Cpi, Dec, Eor}
use Rattle.avr_instr.specs.declared.instr.Instr.TheVariants.{Icall, Ijmp, In, Inc, Jmp, LdX, LdXPlus, LdMinusX, Ldd, Ldi, Lds, LpmZ, LpmZPlus, Lsr}
use Rattle.avr_instr.specs.declared.instr.Instr.TheVariants.{Mov, Movw, Mul, Neg, Nop, Or, Ori, Out, Pop, Push, Rcall, Ret, Reti, Rjmp, Ror, Sbc}
use Rattle.avr_instr.specs.declared.instr.Instr.TheVariants.{Sbci, Sbiw, Sei, Sleep, StX, StXPlus, StMinusX, Std, Sts, Sub, Subi}

-- the fields of a word
abbrev pub d_of : ℕ → ℕ
d_of w = w / 16 % 32

abbrev pub r_of : ℕ → ℕ
r_of w = w / 512 % 2 * 16 + w % 16

abbrev pub upper_of : ℕ → ℕ
upper_of w = 16 + w / 16 % 16

abbrev pub constant_of : ℕ → ℕ
constant_of w = w / 256 % 16 * 16 + w % 16

abbrev pub wide_pair_of : ℕ → ℕ
wide_pair_of w = 24 + w / 16 % 4 * 2

abbrev pub small_of : ℕ → ℕ
small_of w = w / 64 % 4 * 16 + w % 16

abbrev pub address_of : ℕ → ℕ
address_of w = w / 512 % 4 * 16 + w % 16

abbrev pub base_of : ℕ → Base
base_of w = if w / 8 % 2 == 1 then Y else Z

abbrev pub displacement_of : ℕ → ℕ
displacement_of w = w / 8192 % 2 * 32 + w / 1024 % 4 * 8 + w % 8

-- 0x0000 to 0x0FFF
abbrev pub in_nibble_0 : ℕ → Option Instr
in_nibble_0 w =
    if w == 0 then Some Nop
    else if w / 256 == 1 then Some (Movw (w / 16 % 16 * 2) (w % 16 * 2))
    else if w / 1024 == 1 then Some (Cpc (d_of w) (r_of w))
    else if w / 1024 == 2 then Some (Sbc (d_of w) (r_of w))
    else if w / 1024 == 3 then Some (Add (d_of w) (r_of w))
    else None

-- 0x1000 to 0x2FFF
abbrev pub in_nibbles_1_2 : ℕ → Option Instr
in_nibbles_1_2 w =
    if w / 1024 == 5 then Some (Cp (d_of w) (r_of w))
    else if w / 1024 == 6 then Some (Sub (d_of w) (r_of w))
    else if w / 1024 == 7 then Some (Adc (d_of w) (r_of w))
    else if w / 1024 == 8 then Some (And (d_of w) (r_of w))
    else if w / 1024 == 9 then Some (Eor (d_of w) (r_of w))
    else if w / 1024 == 10 then Some (Or (d_of w) (r_of w))
    else if w / 1024 == 11 then Some (Mov (d_of w) (r_of w))
    else None

-- 0x3000 to 0x7FFF
abbrev pub in_nibbles_3_7 : ℕ → Option Instr
in_nibbles_3_7 w =
    if w / 4096 == 3 then Some (Cpi (upper_of w) (constant_of w))
    else if w / 4096 == 4 then Some (Sbci (upper_of w) (constant_of w))
    else if w / 4096 == 5 then Some (Subi (upper_of w) (constant_of w))
    else if w / 4096 == 6 then Some (Ori (upper_of w) (constant_of w))
    else if w / 4096 == 7 then Some (Andi (upper_of w) (constant_of w))
    else None

-- 0x8000 to 0x8FFF, and 0xA000 to 0xAFFF
abbrev pub in_nibbles_8_10 : ℕ → Option Instr
in_nibbles_8_10 w =
    if w / 512 % 2 == 0
    then Some (Ldd (d_of w) (base_of w) (displacement_of w))
    else Some (Std (base_of w) (displacement_of w) (d_of w))

abbrev pub is_beside_x : ℕ → Bool
is_beside_x d = not (d == 26) && not (d == 27)

-- 0x9000 to 0x91FF
abbrev pub in_loads : (w next : ℕ) → Option Instr
in_loads w next =
    if w % 16 == 0 then Some (Lds (d_of w) next)
    else if w % 16 == 4 then Some (LpmZ (d_of w))
    else if (w % 16 == 5) && nat_lt (d_of w) 30 then Some (LpmZPlus (d_of w))
    else if w % 16 == 12 then Some (LdX (d_of w))
    else if (w % 16 == 13) && is_beside_x (d_of w) then Some (LdXPlus (d_of w))
    else if (w % 16 == 14) && is_beside_x (d_of w) then Some (LdMinusX (d_of w))
    else if w % 16 == 15 then Some (Pop (d_of w))
    else None

-- 0x9200 to 0x93FF
abbrev pub in_stores : (w next : ℕ) → Option Instr
in_stores w next =
    if w % 16 == 0 then Some (Sts next (d_of w))
    else if w % 16 == 12 then Some (StX (d_of w))
    else if (w % 16 == 13) && is_beside_x (d_of w) then Some (StXPlus (d_of w))
    else if (w % 16 == 14) && is_beside_x (d_of w) then Some (StMinusX (d_of w))
    else if w % 16 == 15 then Some (Push (d_of w))
    else None

-- 0x9400 to 0x95FF, the rows without a register
abbrev pub in_fixed : (w next : ℕ) → Option Instr
in_fixed w next =
    if w == 0x9409 then Some Ijmp
    else if w == 0x940C then Some (Jmp next)
    else if w == 0x940E then Some (Call next)
    else if w == 0x9478 then Some Sei
    else if w == 0x94F8 then Some Cli
    else if w == 0x9508 then Some Ret
    else if w == 0x9509 then Some Icall
    else if w == 0x9518 then Some Reti
    else if w == 0x9588 then Some Sleep
    else None

-- 0x9400 to 0x95FF
abbrev pub in_one_register : (w next : ℕ) → Option Instr
in_one_register w next =
    if w % 16 == 0 then Some (Com (d_of w))
    else if w % 16 == 1 then Some (Neg (d_of w))
    else if w % 16 == 3 then Some (Inc (d_of w))
    else if w % 16 == 5 then Some (Asr (d_of w))
    else if w % 16 == 6 then Some (Lsr (d_of w))
    else if w % 16 == 7 then Some (Ror (d_of w))
    else if w % 16 == 10 then Some (Dec (d_of w))
    else in_fixed w next

-- 0x9600 to 0x9FFF
abbrev pub in_pairs : ℕ → Option Instr
in_pairs w =
    if w / 256 == 0x96 then Some (Adiw (wide_pair_of w) (small_of w))
    else if w / 256 == 0x97 then Some (Sbiw (wide_pair_of w) (small_of w))
    else if w / 1024 == 39 then Some (Mul (d_of w) (r_of w))
    else None

-- 0x9000 to 0x9FFF
abbrev pub in_nibble_9 : (w next : ℕ) → Option Instr
in_nibble_9 w next =
    if w / 512 == 72 then in_loads w next
    else if w / 512 == 73 then in_stores w next
    else if w / 512 == 74 then in_one_register w next
    else in_pairs w

-- 0xB000 to 0xFFFF
abbrev pub in_nibbles_11_15 : ℕ → Option Instr
in_nibbles_11_15 w =
    if w / 2048 == 22 then Some (In (d_of w) (address_of w))
    else if w / 2048 == 23 then Some (Out (address_of w) (d_of w))
    else if w / 4096 == 12 then Some (Rjmp (w % 4096))
    else if w / 4096 == 13 then Some (Rcall (w % 4096))
    else if w / 4096 == 14 then Some (Ldi (upper_of w) (constant_of w))
    else if w / 1024 == 60 then Some (Brbs (w % 8) (w / 8 % 128))
    else if w / 1024 == 61 then Some (Brbc (w % 8) (w / 8 % 128))
    else None

-- the instruction that a word spells with the one that follows it
abbrev pub decoded : (word next : ℕ) → Option Instr
decoded w next =
    if nat_lt w 0x1000 then in_nibble_0 w
    else if nat_lt w 0x3000 then in_nibbles_1_2 w
    else if nat_lt w 0x8000 then in_nibbles_3_7 w
    else if nat_lt w 0x9000 then in_nibbles_8_10 w
    else if nat_lt w 0xA000 then in_nibble_9 w next
    else if nat_lt w 0xB000 then in_nibbles_8_10 w
    else in_nibbles_11_15 w
