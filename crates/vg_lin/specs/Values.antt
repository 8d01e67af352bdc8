-- What operators and comparisons make of numbers. A value is a number; an operation sees so many of its low bytes as its width says.
use Rattle.std.specs.Prelude.{ℕ, zero, suc, ◌+◌, ◌-◌, ◌*◌, ◌/◌, ◌%◌, ◌^◌, Bool, ◌==◌, nat_lt, nat_le, bit_and, bit_or, bit_xor, Option}
use Rattle.std.specs.Prelude.{Some, None, if◌then◌else◌}
use Rattle.std.specs.Prelude.{ℤ, pos, negsuc, int_lt, int_rem}
use Rattle.std.specs.Int.{w32, cast_unsigned, int_wrapping_div}
use Rattle.vg_lin.specs.declared.instr.Operator.{Operator}
use Rattle.vg_lin.specs.declared.instr.Operator.TheVariants.{Plus, Minus, Times, Divide, Remainder, And, Or, Xor, ShiftLeft, ShiftRight}
use Rattle.vg_lin.specs.declared.instr.Comparison.{Comparison}
use Rattle.vg_lin.specs.declared.instr.Comparison.TheVariants.{Below, Less, Same}

-- The low bytes of a number.
abbrev pub low : (width x : ℕ) → ℕ
low w x = x % 256 ^ w

-- The signed number that these bytes stand for, in two's complement.
abbrev pub signed : (width x : ℕ) → ℤ
signed w x = if nat_lt (2 * low w x) (256 ^ w) then pos (low w x) else negsuc (256 ^ w - 1 - low w x)

-- A division by zero is no legal one: a test stands before it.
abbrev pub divided : (width divisor : ℕ) → ℤ → Option ℕ
divided w zero z = None
divided w (suc n) z = Some (low w (cast_unsigned w32 z))

-- What an operator computes. Sums, differences, products and what is shifted left are cut; a shift by as many bits as the width
-- has, or more, leaves nothing; a quotient is toward zero, and a remainder has the sign of the dividend.
abbrev pub computed : Operator → (width x y : ℕ) → Option ℕ
computed Plus w x y = Some (low w (x + y))
computed Minus w x y = Some (low w (x + (256 ^ w - low w y)))
computed Times w x y = Some (low w (x * y))
computed Divide w x y = divided w (low 4 y) (int_wrapping_div w32 (signed 4 x) (signed 4 y))
computed Remainder w x y = divided w (low 4 y) (int_rem (signed 4 x) (signed 4 y))
computed And w x y = Some (low w (bit_and x y))
computed Or w x y = Some (low w (bit_or x y))
computed Xor w x y = Some (low w (bit_xor x y))
computed ShiftLeft w x n = Some (if nat_lt n (8 * w) then low w (x * 2 ^ n) else 0)
computed ShiftRight w x n = Some (if nat_lt n (8 * w) then low w x / 2 ^ n else 0)

-- What a comparison says.
abbrev pub compared : Comparison → (width x y : ℕ) → Bool
compared Below w x y = nat_lt (low w x) (low w y)
compared Less w x y = int_lt (signed w x) (signed w y)
compared Same w x y = low w x == low w y

-- One step of a division: remainder and dividend, shifted left by one bit as one number.
abbrev pub shifted_remainder : (remainder dividend : ℕ) → ℕ
shifted_remainder r d = low 4 (2 * r + low 4 d / 2 ^ 31)

abbrev pub shifted_dividend : (dividend : ℕ) → ℕ
shifted_dividend d = low 4 (2 * d)

-- What the step leaves in the remainder and in the dividend: the divisor is taken away where the remainder is at least as much.
abbrev pub next_remainder : (remainder dividend divisor : ℕ) → ℕ
next_remainder r d v =
    if nat_le v (shifted_remainder r d) then shifted_remainder r d - v else shifted_remainder r d

abbrev pub next_dividend : (remainder dividend divisor : ℕ) → ℕ
next_dividend r d v = if nat_le v (shifted_remainder r d) then suc (shifted_dividend d) else shifted_dividend d
