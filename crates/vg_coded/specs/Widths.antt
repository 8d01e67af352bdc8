-- The bytes that hold a value where it waits, in a local, as an argument and as a result.
use Rattle.std.specs.Prelude.{ℕ, ◌+◌, ◌/◌}
use Rattle.vg_core.specs.declared.types.CoreType.{CoreType}
use Rattle.vg_core.specs.declared.types.CoreType.TheVariants.{IntType, BoolType, CharType, RawType, NullType, ClassType, ArrayType, FunctionType}

-- The least number of bytes that holds so many bits.
abbrev pub bytes_for : (bits : ℕ) → ℕ
bytes_for bits = (bits + 7) / 8

-- A reference takes two bytes, a delegate four.
abbrev pub width_of : CoreType → ℕ
width_of IntType = 4
width_of BoolType = 1
width_of CharType = 1
width_of (RawType k) = bytes_for k
width_of NullType = 2
width_of (ClassType c) = 2
width_of (ArrayType t) = 2
width_of (FunctionType ps r) = 4
width_of _ = 0
