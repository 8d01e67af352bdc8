-- The operators and the casts among numbers. They see neither a heap nor a delegate, so that each language of the compiler has the
-- very same tables.
use Rattle.std.specs.Prelude.{ℕ, zero, ◌+◌, ◌-◌, ◌*◌, ◌/◌, ◌%◌, ◌^◌, Bool, true, false, not, ◌==◌, nat_lt, nat_le, bit_and, bit_or, bit_xor}
use Rattle.std.specs.Prelude.{ℤ, pos, negsuc, int_lt, int_le, int_rem, if◌then◌else◌}
use Rattle.std.specs.Ordering.{int_eq}
use Rattle.std.specs.Int.{w32, cast_unsigned, cast_signed, int_wrapping_add, int_wrapping_sub, int_wrapping_mul, int_wrapping_neg, int_wrapping_div}

-- The operators of two operands.
pub data Operator : Type 0 where
  Plus : Operator
  Minus : Operator
  Times : Operator
  Divide : Operator
  Remainder : Operator
  Less : Operator
  AtMost : Operator
  Greater : Operator
  AtLeast : Operator
  Equal : Operator
  Unequal : Operator
  And : Operator
  Or : Operator
  Xor : Operator
  ShiftLeft : Operator
  ShiftRight : Operator
  Concat : Operator

-- The operators of one operand.
pub data Prefix : Type 0 where
  Negative : Prefix
  Not : Prefix
  Complement : Prefix

-- What a computation gives: an int, a truth value, a char, or bits.
pub data Scalar : Type 0 where
  AnInt : (n : ℤ) → Scalar
  ATruth : (b : Bool) → Scalar
  AChar : (c : ℕ) → Scalar
  Bits : (width bits : ℕ) → Scalar

-- What an operator of two operands takes: a scalar, or a reference by its cell. A delegate is no operand.
pub data Operand : Type 0 where
  Plain : (s : Scalar) → Operand
  NoCell : Operand  -- null
  ObjectCell : (cell : ℕ) → Operand
  ArrayCell : (cell : ℕ) → Operand

-- What an operator makes of its operands: a scalar, an exception, or nothing, where no legal program has these operands.
pub data Computed : Type 0 where
  Is : (s : Scalar) → Computed
  Fails : (code : ℕ) → Computed
  Unfit : Computed

-- What is made only where this holds.
abbrev pub only_if : Bool → Scalar → Computed
only_if true s = Is s
only_if false s = Unfit

-- A division by zero is the exception 3.
abbrev pub unless_zero : ℤ → Scalar → Computed
unless_zero (pos zero) s = Fails 3
unless_zero _ s = Is s

-- On ints of 32 bits sums, differences and products wrap; division is toward zero, and the remainder has the dividend's sign.
abbrev pub on_ints : Operator → ℤ → ℤ → Computed
on_ints Plus x y = Is (AnInt (int_wrapping_add w32 x y))
on_ints Minus x y = Is (AnInt (int_wrapping_sub w32 x y))
on_ints Times x y = Is (AnInt (int_wrapping_mul w32 x y))
on_ints Divide x y = unless_zero y (AnInt (int_wrapping_div w32 x y))
on_ints Remainder x y = unless_zero y (AnInt (int_rem x y))
on_ints Less x y = Is (ATruth (int_lt x y))
on_ints AtMost x y = Is (ATruth (int_le x y))
on_ints Greater x y = Is (ATruth (int_lt y x))
on_ints AtLeast x y = Is (ATruth (int_le y x))
on_ints Equal x y = Is (ATruth (int_eq x y))
on_ints Unequal x y = Is (ATruth (not (int_eq x y)))
on_ints _ x y = Unfit

-- On chars.
abbrev pub on_chars : Operator → ℕ → ℕ → Computed
on_chars Less x y = Is (ATruth (nat_lt x y))
on_chars AtMost x y = Is (ATruth (nat_le x y))
on_chars Greater x y = Is (ATruth (nat_lt y x))
on_chars AtLeast x y = Is (ATruth (nat_le y x))
on_chars Equal x y = Is (ATruth (x == y))
on_chars Unequal x y = Is (ATruth (not (x == y)))
on_chars _ x y = Unfit

-- On bit strings of j and of k bits: they have one width, but for `#`, where the left bits are the high ones of at most 32.
abbrev pub on_raws : Operator → (j x k y : ℕ) → Computed
on_raws And j x k y = only_if (j == k) (Bits j (bit_and x y))
on_raws Or j x k y = only_if (j == k) (Bits j (bit_or x y))
on_raws Xor j x k y = only_if (j == k) (Bits j (bit_xor x y))
on_raws Concat j x k y = only_if (nat_le (j + k) 32) (Bits (j + k) (x * 2 ^ k + y))
on_raws Equal j x k y = only_if (j == k) (ATruth (x == y))
on_raws Unequal j x k y = only_if (j == k) (ATruth (not (x == y)))
on_raws _ j x k y = Unfit

-- k bits shifted by an int: an amount below 0 or from k up gives 0.
abbrev pub shifted : Operator → ℕ → ℕ → ℤ → Computed
shifted ShiftLeft k x (pos n) = Is (Bits k (if nat_lt n k then x * 2 ^ n % 2 ^ k else 0))
shifted ShiftRight k x (pos n) = Is (Bits k (if nat_lt n k then x / 2 ^ n else 0))
shifted ShiftLeft k x (negsuc n) = Is (Bits k 0)
shifted ShiftRight k x (negsuc n) = Is (Bits k 0)
shifted _ k x n = Unfit

-- A comparison for sameness.
abbrev pub compared : Operator → Bool → Computed
compared Equal b = Is (ATruth b)
compared Unequal b = Is (ATruth (not b))
compared _ b = Unfit

-- Two truth values are the same.
abbrev pub same_truth : Bool → Bool → Bool
same_truth true b = b
same_truth false b = not b

-- An operator on two scalars.
abbrev pub on_scalars : Operator → Scalar → Scalar → Computed
on_scalars op (AnInt x) (AnInt y) = on_ints op x y
on_scalars op (AChar x) (AChar y) = on_chars op x y
on_scalars op (Bits j x) (Bits k y) = on_raws op j x k y
on_scalars op (Bits k x) (AnInt n) = shifted op k x n
on_scalars op (ATruth x) (ATruth y) = compared op (same_truth x y)
on_scalars op _ _ = Unfit

-- An operator on two operands: references are the same by identity, and no object is compared with an array.
abbrev pub binary : Operator → Operand → Operand → Computed
binary op (Plain x) (Plain y) = on_scalars op x y
binary op NoCell NoCell = compared op true
binary op NoCell (ObjectCell k) = compared op false
binary op NoCell (ArrayCell k) = compared op false
binary op (ObjectCell j) NoCell = compared op false
binary op (ArrayCell j) NoCell = compared op false
binary op (ObjectCell j) (ObjectCell k) = compared op (j == k)
binary op (ArrayCell j) (ArrayCell k) = compared op (j == k)
binary op _ _ = Unfit

-- An operator on one scalar.
abbrev pub prefixed : Prefix → Scalar → Computed
prefixed Negative (AnInt x) = Is (AnInt (int_wrapping_neg w32 x))
prefixed Not (ATruth b) = Is (ATruth (not b))
prefixed Complement (Bits k x) = Is (Bits k (2 ^ k - 1 - x))
prefixed _ _ = Unfit

-- What a cast among numbers makes.
pub data Format : Type 0 where
  ToInt : Format
  ToChar : Format
  ToBits : (width : ℕ) → Format

-- So many bits in a format: the high bits are cut, or zeros fill them.
abbrev pub in_format : Format → ℕ → Scalar
in_format ToInt n = AnInt (cast_signed w32 (n % 2 ^ 32))
in_format ToChar n = AChar (n % 256)
in_format (ToBits k) n = Bits k (n % 2 ^ k)

-- A cast among numbers: an int counts as its 32 bits, and a truth value is no number.
abbrev pub recast : Format → Scalar → Computed
recast f (AnInt x) = Is (in_format f (cast_unsigned w32 x))
recast f (AChar c) = Is (in_format f c)
recast f (Bits k x) = Is (in_format f x)
recast f (ATruth b) = Unfit
