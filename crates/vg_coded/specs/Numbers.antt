-- One number for each value.
use Rattle.std.specs.Prelude.{ℕ, Bool, ◌<◌, ◌≤◌, ◌^◌, Option, Some, None, FitsSigned}
use Rattle.std.specs.Int.{w32, cast_unsigned}
use Rattle.vg_source.specs.Operators.{Scalar, AnInt, ATruth, AChar, Bits}
use Rattle.vg_codes.specs.Codes.{Codes, delegate}
use Rattle.vg_core.specs.declared.value.CoreValue.{CoreValue}
use Rattle.vg_core.specs.declared.value.CoreValue.TheVariants.{Int, Bool as Truth, Char, Raw, Null, Obj, Arr, Bound}
use Rattle.vg_firm.specs.Operators.{as_number}

-- The numbers that cells and methods have.
pub record Numbering : Type 0 where
  pub number : ℕ → ℕ  -- of the object or the array in a cell, from 1 in its hierarchy or its type; 0 where it is not kept
  pub procedure : ℕ → Option ℕ  -- the procedure of a method, where it has one
  pub bindable : ℕ → Bool  -- a method may be the value of a delegate

-- An int is the number of its 32 bits, a truth value 0 or 1, a char and a bit string are themselves.
abbrev pub scalar_number : Scalar → ℕ
scalar_number (AnInt n) = cast_unsigned w32 n
scalar_number (ATruth b) = as_number b
scalar_number (AChar c) = c
scalar_number (Bits width bits) = bits

-- A method without a procedure is never called.
abbrev pub known : Option ℕ → ℕ
known (Some q) = q
known None = 0

-- The number of a delegate's receiver: 0 where it has none.
abbrev pub receiver_number : Numbering → Option ℕ → ℕ
receiver_number n (Some cell) = n.number cell
receiver_number n None = 0

-- The number that stands for a value: null is 0, an object or an array is its number, a delegate a code number with its receiver.
abbrev pub coded : Numbering → Codes → CoreValue → ℕ
coded n k (Int z) = scalar_number (AnInt z)
coded n k (Truth b) = scalar_number (ATruth b)
coded n k (Char c) = scalar_number (AChar c)
coded n k (Raw width bits) = scalar_number (Bits width bits)
coded n k Null = 0
coded n k (Obj cell) = n.number cell
coded n k (Arr cell) = n.number cell
coded n k (Bound receiver m) = delegate k (known (n.procedure m)) (receiver_number n receiver)

-- A scalar is in its range: an int of 32 bits, a char of eight, a string of at most 32 bits and none above them.
abbrev pub IsInRange : Scalar → Type 0
IsInRange (AnInt n) = FitsSigned w32 n
IsInRange (ATruth b) = Unit {0}
IsInRange (AChar c) = c < 256
IsInRange (Bits width bits) = (width ≤ 32) × (bits < 2 ^ width)
