-- Mirrors of the code: the types of operators' values, by the types of their operands in the tables. No public clause cites one.
use Rattle.std.specs.Prelude.{ℕ, ◌+◌, ◌==◌, ◌||◌, nat_le, Bool, true, false, Option, Some, None, if◌then◌else◌}
use Rattle.vg_core.specs.declared.types.CoreType.{CoreType}
use Rattle.vg_core.specs.declared.types.CoreType.TheVariants.{IntType, BoolType, CharType, RawType, NullType, ClassType, NoType}
use Rattle.vg_core.specs.declared.program.Tables.{Tables}
use Rattle.vg_core.specs.Tables.{is_below}
use Rattle.vg_types_tables.specs.declared.judged.Head.{Head}
use Rattle.vg_types_tables.specs.declared.judged.Head.TheVariants.{Value}

-- Of two ints.
abbrev pub arithmetic_type : CoreType → CoreType → Option CoreType
arithmetic_type IntType IntType = Some IntType
arithmetic_type _ _ = None

-- Which of two ints or chars is less.
abbrev pub order_type : CoreType → CoreType → Option CoreType
order_type IntType IntType = Some BoolType
order_type CharType CharType = Some BoolType
order_type _ _ = None

-- Of two bit strings of one width.
abbrev pub bits_type : CoreType → CoreType → Option CoreType
bits_type (RawType j) (RawType k) = if j == k then Some (RawType j) else None
bits_type _ _ = None

-- Of a bit string and an int.
abbrev pub shift_type : CoreType → CoreType → Option CoreType
shift_type (RawType k) IntType = Some (RawType k)
shift_type _ _ = None

-- Of two bit strings side by side.
abbrev pub concat_type : CoreType → CoreType → Option CoreType
concat_type (RawType j) (RawType k) = if nat_le (j + k) 32 then Some (RawType (j + k)) else None
concat_type _ _ = None

-- Two truth values.
abbrev pub are_bools : CoreType → CoreType → Bool
are_bools BoolType BoolType = true
are_bools _ _ = false

-- Ints, chars and bit strings.
abbrev pub has_bits : CoreType → Bool
has_bits IntType = true
has_bits CharType = true
has_bits (RawType k) = true
has_bits _ = false

-- A value of the first type may be cast to the second, where it is told whether they are equal.
abbrev pub casts_where : Tables → (type wanted : CoreType) → (equal : Bool) → Bool
casts_where p NoType u equal = false
casts_where p IntType u equal = equal || has_bits u
casts_where p CharType u equal = equal || has_bits u
casts_where p (RawType k) u equal = equal || has_bits u
casts_where p (ClassType c) (ClassType d) equal = equal || (is_below p c d || is_below p d c)
casts_where p NullType (ClassType d) equal = true
casts_where p t u equal = equal

-- The class that is tested for, where an object waits whose class is this one, or above or below it.
abbrev pub tested : Tables → Head → (wanted : CoreType) → Option ℕ
tested p (Value (ClassType c)) (ClassType d) = if is_below p c d || is_below p d c then Some d else None
tested p _ _ = None
