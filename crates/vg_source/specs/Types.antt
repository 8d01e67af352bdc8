-- The types of values.
use Rattle.std.specs.Prelude.{ℕ}
use Rattle.vg_source.specs.Names.{Name}

-- A static type. The parameter types of a function type are a row of MoreTypes and NoType; NoType also stands where there is no result.
pub data StaticType : Type 0 where
  IntType : StaticType
  BoolType : StaticType
  CharType : StaticType
  RawType : (width : ℕ) → StaticType  -- a bit string of so many bits
  NullType : StaticType  -- the type of `null`
  ClassType : (class : Name) → StaticType
  ArrayType : (element : StaticType) → StaticType
  FunctionType : (params result : StaticType) → StaticType
  NoType : StaticType
  MoreTypes : (first rest : StaticType) → StaticType
