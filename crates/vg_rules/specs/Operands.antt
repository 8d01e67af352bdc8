-- Which operands an operator takes, and which casts and class tests there are.
use Rattle.std.specs.Prelude.{◌+◌, ◌==◌, ◌&&◌, ◌||◌, nat_le, Bool, true, false, List, [], ◌∷◌}
use Rattle.vg_syntax.specs.Tree.{Node}
use Rattle.vg_syntax.specs.declared.kind.Kind.{Kind}
use Rattle.vg_syntax.specs.declared.kind.Kind.TheVariants as kind
use Rattle.vg_source.specs.Types.{StaticType, IntType, BoolType, CharType, RawType, NullType, ClassType, FunctionType, NoType}
use Rattle.vg_source.specs.Resolved.{Head, IsValue}
use Rattle.vg_rules.specs.Fits.{same_type, is_below, fits}

-- Two ints.
abbrev pub ints : StaticType → StaticType → Bool
ints IntType IntType = true
ints _ _ = false

-- Two ints, or two chars.
abbrev pub ordered : StaticType → StaticType → Bool
ordered CharType CharType = true
ordered t u = ints t u

-- Two bit strings of one width.
abbrev pub of_one_width : StaticType → StaticType → Bool
of_one_width (RawType j) (RawType k) = j == k
of_one_width _ _ = false

-- A bit string and an int.
abbrev pub shifts : StaticType → StaticType → Bool
shifts (RawType k) IntType = true
shifts _ _ = false

-- Two bit strings of at most 32 bits together.
abbrev pub stand_side_by_side : StaticType → StaticType → Bool
stand_side_by_side (RawType j) (RawType k) = nat_le (j + k) 32
stand_side_by_side _ _ = false

-- Two truth values.
abbrev pub bools : StaticType → StaticType → Bool
bools BoolType BoolType = true
bools _ _ = false

-- What can be compared: no delegate, and not what a call without a result leaves.
abbrev pub is_compared : StaticType → Bool
is_compared (FunctionType ps r) = false
is_compared NoType = false
is_compared _ = true

-- Two types of which one fits the other.
abbrev pub comparable : Node → StaticType → StaticType → Bool
comparable ds t u = is_compared t && is_compared u && (fits ds t u || fits ds u t)

-- The operands that an operator takes.
abbrev pub takes : Node → Kind → StaticType → StaticType → Bool
takes ds kind.EqualEqual = comparable ds
takes ds kind.NotEqual = comparable ds
takes ds kind.Less = ordered
takes ds kind.LessEqual = ordered
takes ds kind.Greater = ordered
takes ds kind.GreaterEqual = ordered
takes ds kind.Or = of_one_width
takes ds kind.Xor = of_one_width
takes ds kind.And = of_one_width
takes ds kind.ShiftLeft = shifts
takes ds kind.ShiftRight = shifts
takes ds kind.Concat = stand_side_by_side
takes ds kind.AndAnd = bools
takes ds kind.OrOr = bools
takes ds _ = ints

-- Rule 18 for two operands: they are values that the operator takes.
abbrev pub operands_keep : Node → Kind → Head → Head → Bool
operands_keep ds k (IsValue t) (IsValue u) = takes ds k t u
operands_keep ds k _ _ = false

-- The operand that an operator before it takes.
abbrev pub takes_one : Kind → StaticType → Bool
takes_one kind.Minus IntType = true
takes_one kind.Not BoolType = true
takes_one kind.Complement (RawType k) = true
takes_one _ _ = false

-- Rule 18 for a row of operators before an operand: each of them gives the type that it takes.
abbrev pub operand_keeps : List Kind → Head → Bool
operand_keeps [] h = true
operand_keeps (k ∷ ks) (IsValue t) = takes_one k t && operand_keeps ks (IsValue t)
operand_keeps _ _ = false

-- Ints, chars and bit strings.
abbrev pub has_bits : StaticType → Bool
has_bits IntType = true
has_bits CharType = true
has_bits (RawType k) = true
has_bits _ = false

-- One class is the other, or above or below it.
abbrev pub on_one_chain : Node → StaticType → StaticType → Bool
on_one_chain ds (ClassType c) (ClassType d) = is_below ds c d || is_below ds d c
on_one_chain ds _ _ = false

-- Null stands for an object of any class.
abbrev pub null_to_class : StaticType → StaticType → Bool
null_to_class NullType (ClassType d) = true
null_to_class _ _ = false

-- Rule 19 for a cast: to the same type, among ints, chars and bit strings, to a class above or below, or of null to a class.
abbrev pub can_cast : Node → StaticType → StaticType → Bool
can_cast ds NoType u = false
can_cast ds t u = same_type t u || has_bits t && has_bits u || on_one_chain ds t u || null_to_class t u

-- Rule 19 for a part with a type: a cast, or a test of a class against one above or below it or itself.
abbrev pub type_part_keeps : Node → Kind → Head → StaticType → Bool
type_part_keeps ds kind.Below (IsValue t) u = on_one_chain ds t u
type_part_keeps ds _ (IsValue t) u = can_cast ds t u
type_part_keeps ds _ _ u = false
