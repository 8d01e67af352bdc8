-- Which value may stand where a type is wanted.
use Rattle.std.specs.Prelude.{◌==◌, ◌&&◌, Bool, true, false, bytes_eq}
use Rattle.vg_syntax.specs.Tree.{Node}
use Rattle.vg_source.specs.Names.{Name, is_among}
use Rattle.vg_source.specs.Types.{StaticType, IntType, BoolType, CharType, RawType, NullType, ClassType, ArrayType, FunctionType, NoType, MoreTypes}
use Rattle.vg_source.specs.Declared.{chain_of}

-- Two types are equal.
abbrev pub same_type : StaticType → StaticType → Bool
same_type IntType IntType = true
same_type BoolType BoolType = true
same_type CharType CharType = true
same_type (RawType j) (RawType k) = j == k
same_type NullType NullType = true
same_type (ClassType c) (ClassType d) = bytes_eq c d
same_type (ArrayType t) (ArrayType u) = same_type t u
same_type (FunctionType ps r) (FunctionType qs s) = same_type ps qs && same_type r s
same_type NoType NoType = true
same_type (MoreTypes t ts) (MoreTypes u us) = same_type t u && same_type ts us
same_type _ _ = false

-- A class is d or below it.
abbrev pub is_below : Node → (c d : Name) → Bool
is_below ds c d = is_among (chain_of ds c) d

-- A value of the first type may stand where one of the second is wanted. What a call without a result leaves fits nothing.
abbrev pub fits : Node → StaticType → StaticType → Bool
fits ds NoType u = false
fits ds (ClassType c) (ClassType d) = is_below ds c d
fits ds NullType (ClassType d) = true
fits ds NullType (ArrayType u) = true
fits ds NullType (FunctionType ps r) = true
fits ds t u = same_type t u
