-- What operators make of numbers. An int is the number of its 32 bits in two's complement, a truth value is 0 or 1, a char and a bit
-- string are themselves, and so is the number of an object.
use Rattle.std.specs.Prelude.{ℕ, zero, suc, ◌+◌, ◌-◌, ◌*◌, ◌/◌, ◌%◌, ◌^◌, Bool, true, false, not, ◌==◌, ◌&&◌, nat_lt, nat_le, bit_and, bit_or, bit_xor}
use Rattle.std.specs.Prelude.{Option, Some, None, if◌then◌else◌}
use Rattle.std.specs.Prelude.{ℤ, pos, negsuc, int_lt, int_le, int_rem}
use Rattle.std.specs.Int.{w32, cast_unsigned, cast_signed, int_wrapping_add, int_wrapping_sub, int_wrapping_mul, int_wrapping_neg, int_wrapping_div}
use Rattle.vg_firm.specs.declared.step.Order.{Order}
use Rattle.vg_firm.specs.declared.step.Order.TheVariants.{Signed, Unsigned}
use Rattle.vg_firm.specs.declared.step.Operator.{Operator}
use Rattle.vg_firm.specs.declared.step.Operator.TheVariants.{Plus, Minus, Times, Divide, Remainder, Less, AtMost, Greater, AtLeast, Equal, Unequal}
use Rattle.vg_firm.specs.declared.step.Operator.TheVariants.{And, Or, Xor, ShiftLeft, ShiftRight, Concat}
use Rattle.vg_firm.specs.declared.step.Prefix.{Prefix}
use Rattle.vg_firm.specs.declared.step.Prefix.TheVariants.{Negative, Not, Complement, Cut}

abbrev pub as_number : Bool → ℕ
as_number true = 1
as_number false = 0

-- An operation on ints.
abbrev pub on_ints : (ℤ → ℤ → ℤ) → (x y : ℕ) → ℕ
on_ints go x y = cast_unsigned w32 (go (cast_signed w32 x) (cast_signed w32 y))

-- A division has no result where the divisor is 0.
abbrev pub unless_zero : (divisor result : ℕ) → Option ℕ
unless_zero zero n = None
unless_zero (suc d) n = Some n

abbrev pub is_less : Order → (x y : ℕ) → Bool
is_less Signed x y = int_lt (cast_signed w32 x) (cast_signed w32 y)
is_less Unsigned x y = nat_lt x y

abbrev pub is_at_most : Order → (x y : ℕ) → Bool
is_at_most Signed x y = int_le (cast_signed w32 x) (cast_signed w32 y)
is_at_most Unsigned x y = nat_le x y

-- A shift by an int: an amount below 0, or of all bits, leaves nothing.
abbrev pub shifted : ℤ → (bits : ℕ) → (ℕ → ℕ) → ℕ
shifted (pos n) k go = if nat_lt n k then go n else 0
shifted (negsuc n) k go = 0

-- What an operator makes of two numbers; nothing where it divides by 0.
abbrev pub computed : Operator → (x y : ℕ) → Option ℕ
computed Plus x y = Some (on_ints (int_wrapping_add w32) x y)
computed Minus x y = Some (on_ints (int_wrapping_sub w32) x y)
computed Times x y = Some (on_ints (int_wrapping_mul w32) x y)
computed Divide x y = unless_zero y (on_ints (int_wrapping_div w32) x y)
computed Remainder x y = unless_zero y (on_ints int_rem x y)
computed (Less o) x y = Some (as_number (is_less o x y))
computed (AtMost o) x y = Some (as_number (is_at_most o x y))
computed (Greater o) x y = Some (as_number (is_less o y x))
computed (AtLeast o) x y = Some (as_number (is_at_most o y x))
computed Equal x y = Some (as_number (x == y))
computed Unequal x y = Some (as_number (not (x == y)))
computed And x y = Some (bit_and x y)
computed Or x y = Some (bit_or x y)
computed Xor x y = Some (bit_xor x y)
computed (ShiftLeft k) x y = Some (shifted (cast_signed w32 y) k (λ n. x * 2 ^ n % 2 ^ k))
computed (ShiftRight k) x y = Some (shifted (cast_signed w32 y) k (λ n. x / 2 ^ n))
computed (Concat k) x y = Some (x * 2 ^ k + y)

-- A string of so many bits, which are at most 32.
abbrev pub is_string : (bits x : ℕ) → Bool
is_string k x = nat_le k 32 && nat_lt x (2 ^ k)

-- Operators on strings of so many bits have such operands; a string that is put together has at most 32 bits.
abbrev pub has_strings : Operator → (x y : ℕ) → Bool
has_strings (ShiftLeft k) x y = is_string k x
has_strings (ShiftRight k) x y = is_string k x
has_strings (Concat k) x y = is_string k y && nat_lt (x * 2 ^ k + y) (2 ^ 32)
has_strings op x y = true

-- What an operator makes of one number.
abbrev pub applied : Prefix → ℕ → ℕ
applied Negative x = cast_unsigned w32 (int_wrapping_neg w32 (cast_signed w32 x))
applied Not x = as_number (x == 0)
applied (Complement k) x = 2 ^ k - 1 - x
applied (Cut k) x = x % 2 ^ k

-- The opposite of each bit is of a string of so many.
abbrev pub has_string : Prefix → (x : ℕ) → Bool
has_string (Complement k) x = is_string k x
has_string op x = true
