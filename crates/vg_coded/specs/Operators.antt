-- The operators of packed programs that stand for those of typed ones.
use Rattle.std.specs.Prelude.{◌≡◌, ℕ, Bool, true, nat_lt, Option, Some, None, if◌then◌else◌}
use Rattle.vg_source.specs.Operators.{Computed, Is, Fails, Unfit}
use Rattle.vg_core.specs.declared.types.CoreType.{CoreType}
use Rattle.vg_core.specs.declared.types.CoreType.TheVariants.{CharType, RawType}
use Rattle.vg_core.specs.declared.operator.Operator.{Operator}
use Rattle.vg_core.specs.declared.operator.Operator.TheVariants.{Plus, Minus, Times, Divide, Remainder, Less, AtMost, Greater, AtLeast, Equal, Unequal}
use Rattle.vg_core.specs.declared.operator.Operator.TheVariants.{And, Or, Xor, ShiftLeft, ShiftRight, Concat}
use Rattle.vg_core.specs.declared.operator.Prefix.{Prefix}
use Rattle.vg_core.specs.declared.operator.Prefix.TheVariants.{Negative, Not, Complement}
use Rattle.vg_firm.specs.declared.step.Order.{Order}
use Rattle.vg_firm.specs.declared.step.Order.TheVariants.{Signed, Unsigned}
use Rattle.vg_firm.specs.declared.step.Operator.{Operator as FirmOperator}
use Rattle.vg_firm.specs.declared.step.Operator.TheVariants as firm
use Rattle.vg_firm.specs.declared.step.Prefix.{Prefix as FirmPrefix}
use Rattle.vg_firm.specs.declared.step.Prefix.TheVariants as firm_prefix
use Rattle.vg_firm.specs.Operators.{applied}
use Rattle.vg_coded.specs.Numbers.{scalar_number, IsInRange}

-- The bits of the numbers of a type.
abbrev pub bits_of : CoreType → ℕ
bits_of CharType = 8
bits_of (RawType k) = k
bits_of _ = 32

-- Chars are compared as they are, ints by their signs.
abbrev pub order_of : CoreType → Order
order_of CharType = Unsigned
order_of _ = Signed

-- The operator for one on values of these types.
abbrev pub operator_for : Operator → (t u : CoreType) → FirmOperator
operator_for Plus t u = firm.Plus
operator_for Minus t u = firm.Minus
operator_for Times t u = firm.Times
operator_for Divide t u = firm.Divide
operator_for Remainder t u = firm.Remainder
operator_for Less t u = firm.Less (order_of t)
operator_for AtMost t u = firm.AtMost (order_of t)
operator_for Greater t u = firm.Greater (order_of t)
operator_for AtLeast t u = firm.AtLeast (order_of t)
operator_for Equal t u = firm.Equal
operator_for Unequal t u = firm.Unequal
operator_for And t u = firm.And
operator_for Or t u = firm.Or
operator_for Xor t u = firm.Xor
operator_for ShiftLeft t u = firm.ShiftLeft (bits_of t)
operator_for ShiftRight t u = firm.ShiftRight (bits_of t)
operator_for Concat t u = firm.Concat (bits_of u)

-- The operator for one on a value of this type.
abbrev pub prefix_for : Prefix → CoreType → FirmPrefix
prefix_for Negative t = firm_prefix.Negative
prefix_for Not t = firm_prefix.Not
prefix_for Complement t = firm_prefix.Complement (bits_of t)

-- A cast among numbers keeps the low bits, and does nothing where the second type has as many bits.
abbrev pub cut_for : (t u : CoreType) → Option FirmPrefix
cut_for t u = if nat_lt (bits_of u) (bits_of t) then Some (firm_prefix.Cut (bits_of u)) else None

-- An operator on numbers, whose operands are as they must be where this holds, gives the number of what was computed, and nothing for a
-- division by 0; what no legal program computes owes nothing.
abbrev pub StandsFor : (holds : Bool) → Option ℕ → Computed → Type 0
StandsFor b o (Is s) = IsInRange s × (b ≡ true) × (o ≡ Some (scalar_number s))
StandsFor b o (Fails code) = (code ≡ 3) × (b ≡ true) × (o ≡ None)
StandsFor b o Unfit = Unit {0}

-- What a cast among numbers makes of a number.
abbrev pub cut_by : Option FirmPrefix → ℕ → ℕ
cut_by (Some op) n = applied op n
cut_by None n = n
