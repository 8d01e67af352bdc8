-- Operators and comparisons of linear code at their edges. The values were worked by hand.
use Rattle.std.specs.Prelude.{◌≡◌, refl, true, false, Some, None}
use Rattle.vg_lin.specs.declared.instr.Operator.TheVariants.{Plus, Minus, Times, Divide, Remainder, And, Or, Xor, ShiftLeft, ShiftRight}
use Rattle.vg_lin.specs.declared.instr.Comparison.TheVariants.{Below, Less, Same}
use Rattle.vg_lin.specs.Values.{computed, compared, next_remainder, next_dividend}

sum_wraps : computed Plus 4 0xFFFFFFFF 2 ≡ Some 1
sum_wraps = refl

sum_of_one_byte : computed Plus 1 0x1FF 2 ≡ Some 1
sum_of_one_byte = refl

difference_wraps : computed Minus 4 1 2 ≡ Some 0xFFFFFFFF
difference_wraps = refl

difference_of_three : computed Minus 3 0 1 ≡ Some 0xFFFFFF
difference_of_three = refl

product_wraps : computed Times 4 0x10001 0x10001 ≡ Some 0x20001
product_wraps = refl

-- -7 and 2: -3 and -1
quotient : computed Divide 4 0xFFFFFFF9 2 ≡ Some 0xFFFFFFFD
quotient = refl

remainder : computed Remainder 4 0xFFFFFFF9 2 ≡ Some 0xFFFFFFFF
remainder = refl

-- 7 and -2: -3 and 1
quotient_of_other_sign : computed Divide 4 7 0xFFFFFFFE ≡ Some 0xFFFFFFFD
quotient_of_other_sign = refl

remainder_of_other_sign : computed Remainder 4 7 0xFFFFFFFE ≡ Some 1
remainder_of_other_sign = refl

-- the least int by -1: itself and 0
least_quotient : computed Divide 4 0x80000000 0xFFFFFFFF ≡ Some 0x80000000
least_quotient = refl

least_remainder : computed Remainder 4 0x80000000 0xFFFFFFFF ≡ Some 0
least_remainder = refl

by_zero : computed Divide 4 7 0 ≡ None
by_zero = refl

left_by_all : computed ShiftLeft 4 0xFFFFFFFF 32 ≡ Some 0
left_by_all = refl

left_by_one_less : computed ShiftLeft 4 0xFFFFFFFF 31 ≡ Some 0x80000000
left_by_one_less = refl

right_by_all : computed ShiftRight 4 0xFFFFFFFF 32 ≡ Some 0
right_by_all = refl

-- a negative amount is a large number
right_by_negative : computed ShiftRight 4 0xFFFFFFFF 0xFFFFFFFF ≡ Some 0
right_by_negative = refl

right_by_one : computed ShiftRight 2 0x1FFFF 1 ≡ Some 0x7FFF
right_by_one = refl

logic : computed And 1 0xF3 0x35 ≡ Some 0x31
logic = refl

either : computed Or 1 0xF3 0x35 ≡ Some 0xF7
either = refl

one_of_two : computed Xor 1 0xF3 0x35 ≡ Some 0xC6
one_of_two = refl

-- -1 is less than 0, and not below it
signed_order : compared Less 4 0xFFFFFFFF 0 ≡ true
signed_order = refl

unsigned_order : compared Below 4 0xFFFFFFFF 0 ≡ false
unsigned_order = refl

least_order : compared Less 4 0x80000000 0x7FFFFFFF ≡ true
least_order = refl

-- only so many low bytes are compared
low_bytes : compared Same 1 0x1AB 0xAB ≡ true
low_bytes = refl

all_bytes : compared Same 2 0x1AB 0xAB ≡ false
all_bytes = refl

-- a step of a division: the remainder 1 and the dividend's high bit make 3, from which 3 is taken
remainder_taken : next_remainder 1 0x80000001 3 ≡ 0
remainder_taken = refl

dividend_marked : next_dividend 1 0x80000001 3 ≡ 3
dividend_marked = refl

remainder_left : next_remainder 1 0x80000001 4 ≡ 3
remainder_left = refl

dividend_shifted : next_dividend 1 0x80000001 4 ≡ 2
dividend_shifted = refl
