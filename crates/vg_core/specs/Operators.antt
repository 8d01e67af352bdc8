-- What operators see of values. The tables of operators are those of the source.
use Rattle.std.specs.Prelude.{ℕ, ◌==◌, Option, Some, None, if◌then◌else◌}
use Rattle.vg_source.specs.Operators as operators
use Rattle.vg_source.specs.Operators.{Scalar, AnInt, ATruth, AChar, Bits, Operand, Plain, NoCell, ObjectCell, ArrayCell}
use Rattle.vg_core.specs.declared.value.CoreValue.{CoreValue}
use Rattle.vg_core.specs.declared.value.CoreValue.TheVariants.{Int, Bool as Truth, Char, Raw, Null, Obj, Arr, Bound}
use Rattle.vg_core.specs.declared.operator.Operator.{Operator}
use Rattle.vg_core.specs.declared.operator.Operator.TheVariants.{Plus, Minus, Times, Divide, Remainder, Less, AtMost, Greater, AtLeast, Equal, Unequal}
use Rattle.vg_core.specs.declared.operator.Operator.TheVariants.{And, Or, Xor, ShiftLeft, ShiftRight, Concat}
use Rattle.vg_core.specs.declared.operator.Prefix.{Prefix}
use Rattle.vg_core.specs.declared.operator.Prefix.TheVariants.{Negative, Not, Complement}

-- An operator by its name.
abbrev pub operator_of : Operator → operators.Operator
operator_of Plus = operators.Plus
operator_of Minus = operators.Minus
operator_of Times = operators.Times
operator_of Divide = operators.Divide
operator_of Remainder = operators.Remainder
operator_of Less = operators.Less
operator_of AtMost = operators.AtMost
operator_of Greater = operators.Greater
operator_of AtLeast = operators.AtLeast
operator_of Equal = operators.Equal
operator_of Unequal = operators.Unequal
operator_of And = operators.And
operator_of Or = operators.Or
operator_of Xor = operators.Xor
operator_of ShiftLeft = operators.ShiftLeft
operator_of ShiftRight = operators.ShiftRight
operator_of Concat = operators.Concat

-- An operator of one operand by its name.
abbrev pub prefix_of : Prefix → operators.Prefix
prefix_of Negative = operators.Negative
prefix_of Not = operators.Not
prefix_of Complement = operators.Complement

-- A scalar as a value.
abbrev pub scalar_value : Scalar → CoreValue
scalar_value (AnInt n) = Int n
scalar_value (ATruth b) = Truth b
scalar_value (AChar c) = Char c
scalar_value (Bits width bits) = Raw width bits

-- What operators see of a value: a delegate is no operand.
abbrev pub operand_of : CoreValue → Option Operand
operand_of (Int n) = Some (Plain (AnInt n))
operand_of (Truth b) = Some (Plain (ATruth b))
operand_of (Char c) = Some (Plain (AChar c))
operand_of (Raw width bits) = Some (Plain (Bits width bits))
operand_of Null = Some NoCell
operand_of (Obj cell) = Some (ObjectCell cell)
operand_of (Arr cell) = Some (ArrayCell cell)
operand_of (Bound receiver m) = None

-- The scalar of an operand, where it is one.
abbrev pub scalar_in : Option Operand → Option Scalar
scalar_in (Some (Plain s)) = Some s
scalar_in _ = None

-- The scalar that a value is, where it is one.
abbrev pub scalar_of : CoreValue → Option Scalar
scalar_of v = scalar_in (operand_of v)

-- The bits of a byte: a register holds nothing else.
abbrev pub byte_of : CoreValue → Option ℕ
byte_of (Raw width bits) = if width == 8 then Some bits else None
byte_of _ = None
