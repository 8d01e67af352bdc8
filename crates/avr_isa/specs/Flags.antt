-- The flags of SREG, by the tables of the AVR Instruction Set Manual.
use Rattle.std.specs.Prelude.{ℕ, ◌+◌, ◌-◌, ◌*◌, ◌/◌, ◌%◌, ◌^◌, Bool, true, false, not, ◌&&◌, ◌||◌, ◌==◌, nat_lt, nat_le, if◌then◌else◌}
use Rattle.avr_isa.specs.declared.flags.Flags.{Flags}

-- a bit of SREG, from 0: C, Z, N, V, S, H, T, I
abbrev pub is_set : (bit sreg : ℕ) → Bool
is_set bit sreg = sreg / 2 ^ bit % 2 == 1

-- the carry as a number
abbrev pub carry_of : ℕ → ℕ
carry_of sreg = sreg % 2

-- a flag as a number
abbrev pub number : Bool → ℕ
number flag = if flag then 1 else 0

-- exactly one of two
abbrev pub differ : Bool → Bool → Bool
differ a b = if a then not b else b

-- SREG with these flags: S is N exclusive or V, and T and I stay
abbrev pub with_flags : ℕ → Flags → ℕ
with_flags sreg f =
    sreg / 64 * 64
    + number f.half_carry * 32
    + number (differ f.negative f.overflow) * 16
    + number f.overflow * 8
    + number f.negative * 4
    + number f.zero * 2
    + number f.carry

-- bit 7 of a byte
abbrev pub sign : ℕ → Bool
sign byte = nat_le 128 byte

-- bit 15 of a word
abbrev pub wide_sign : ℕ → Bool
wide_sign word = nat_le 0x8000 word

-- the byte that is left of a sum
abbrev pub sum_of : (a b carry : ℕ) → ℕ
sum_of a b carry = (a + b + carry) % 256

-- ADD, ADC: C and H are the carries out of bit 7 and bit 3; V is Rd7 · Rr7 · R7' + Rd7' · Rr7' · R7
abbrev pub flags_of_sum : (a b carry : ℕ) → Flags
flags_of_sum a b carry =
    let r = sum_of a b carry in
    record {
      half_carry = nat_lt 15 (a % 16 + b % 16 + carry);
      overflow = (sign a && sign b && not (sign r)) || (not (sign a) && not (sign b) && sign r);
      negative = sign r;
      zero = r == 0;
      carry = nat_lt 255 (a + b + carry);
    }

-- the byte that is left of a difference
abbrev pub difference_of : (a b borrow : ℕ) → ℕ
difference_of a b borrow = (a + 256 - (b + borrow)) % 256

-- SUB, SBC, SUBI, SBCI, CP, CPC, CPI, NEG: C and H are the borrows of the byte and of its low four bits; V is Rd7 · Rr7' · R7' + Rd7' · Rr7 · R7
abbrev pub flags_of_difference : (a b borrow : ℕ) → Flags
flags_of_difference a b borrow =
    let r = difference_of a b borrow in
    record {
      half_carry = nat_lt (a % 16) (b % 16 + borrow);
      overflow = (sign a && not (sign b) && not (sign r)) || (not (sign a) && sign b && sign r);
      negative = sign r;
      zero = r == 0;
      carry = nat_lt a (b + borrow);
    }

-- SBC, SBCI, CPC: Z stays set only where it was set
abbrev pub sticky : ℕ → Flags → Flags
sticky sreg f = record f { zero = f.zero && is_set 1 sreg }

-- AND, ANDI, OR, ORI, EOR: V is 0; H and C stay
abbrev pub flags_of_logic : (sreg r : ℕ) → Flags
flags_of_logic sreg r =
    record {
      half_carry = is_set 5 sreg;
      overflow = false;
      negative = sign r;
      zero = r == 0;
      carry = is_set 0 sreg;
    }

-- COM: as for logic, and C is 1
abbrev pub flags_of_complement : (sreg r : ℕ) → Flags
flags_of_complement sreg r = record (flags_of_logic sreg r) { carry = true }

-- INC, DEC: as for logic, and V is set where the result is this one
abbrev pub flags_of_count : (sreg r overflows_to : ℕ) → Flags
flags_of_count sreg r overflows_to = record (flags_of_logic sreg r) { overflow = r == overflows_to }

-- ASR, LSR, ROR of a to r: C is the old bit 0, V is N exclusive or C; H stays
abbrev pub flags_of_shift : (sreg a r : ℕ) → Flags
flags_of_shift sreg a r =
    record {
      half_carry = is_set 5 sreg;
      overflow = differ (sign r) (a % 2 == 1);
      negative = sign r;
      zero = r == 0;
      carry = a % 2 == 1;
    }

-- ADIW: on sixteen bits; V is Rdh7' · R15; H stays
abbrev pub flags_of_wide_sum : (sreg a k : ℕ) → Flags
flags_of_wide_sum sreg a k =
    let r = (a + k) % 65536 in
    record {
      half_carry = is_set 5 sreg;
      overflow = not (wide_sign a) && wide_sign r;
      negative = wide_sign r;
      zero = r == 0;
      carry = nat_lt 65535 (a + k);
    }

-- SBIW: on sixteen bits; V is Rdh7 · R15'; H stays
abbrev pub flags_of_wide_difference : (sreg a k : ℕ) → Flags
flags_of_wide_difference sreg a k =
    let r = (a + 65536 - k) % 65536 in
    record {
      half_carry = is_set 5 sreg;
      overflow = wide_sign a && not (wide_sign r);
      negative = wide_sign r;
      zero = r == 0;
      carry = nat_lt a k;
    }

-- MUL: C is bit 15 of the product, Z is set where the product is 0; the others stay
abbrev pub sreg_of_product : (sreg product : ℕ) → ℕ
sreg_of_product sreg product = sreg / 4 * 4 + number (product == 0) * 2 + product / 0x8000
