-- Values, and the heap that holds them.
use Rattle.std.specs.Prelude.{ℕ, ◌+◌, ◌==◌, Bool, false, List, length, map, sum, Option, Some, None, ℤ, pos, if◌then◌else◌}
use Rattle.vg_source.specs.Names.{Name}
use Rattle.vg_source.specs.Types.{StaticType, IntType, BoolType, CharType, RawType}
use Rattle.vg_source.specs.Operators.{Scalar, AnInt, ATruth, AChar, Bits, Operand, Plain, NoCell, ObjectCell, ArrayCell}

-- A value. A delegate is a method with its receiver, if it has one: an object's method of the class that declares it, or a component's.
pub data Value : Type 0 where
  Int : (n : ℤ) → Value
  Truth : (b : Bool) → Value
  Char : (c : ℕ) → Value
  Raw : (width bits : ℕ) → Value
  Null : Value
  Obj : (cell : ℕ) → Value
  Arr : (cell : ℕ) → Value
  Bound : (receiver : Option ℕ) (owner method : Name) → Value

-- What a place holds before anything was put there.
abbrev pub default : StaticType → Value
default IntType = Int (pos 0)
default BoolType = Truth false
default CharType = Char 0
default (RawType k) = Raw k 0
default _ = Null

-- A scalar as a value.
abbrev pub scalar_value : Scalar → Value
scalar_value (AnInt n) = Int n
scalar_value (ATruth b) = Truth b
scalar_value (AChar c) = Char c
scalar_value (Bits width bits) = Raw width bits

-- What operators see of a value: a delegate is no operand.
abbrev pub operand_of : Value → Option Operand
operand_of (Int n) = Some (Plain (AnInt n))
operand_of (Truth b) = Some (Plain (ATruth b))
operand_of (Char c) = Some (Plain (AChar c))
operand_of (Raw width bits) = Some (Plain (Bits width bits))
operand_of Null = Some NoCell
operand_of (Obj cell) = Some (ObjectCell cell)
operand_of (Arr cell) = Some (ArrayCell cell)
operand_of (Bound receiver owner method) = None

-- The scalar of an operand, where it is one.
abbrev pub scalar_in : Option Operand → Option Scalar
scalar_in (Some (Plain s)) = Some s
scalar_in _ = None

-- The scalar that a value is, where it is one.
abbrev pub scalar_of : Value → Option Scalar
scalar_of v = scalar_in (operand_of v)

-- The bits of a byte: a register holds nothing else.
abbrev pub byte_of : Value → Option ℕ
byte_of (Raw width bits) = if width == 8 then Some bits else None
byte_of _ = None

-- A field with its value, under the name of the class or component that declares it and its own.
pub record FieldValue : Type 0 where
  pub owner : Name
  pub name : Name
  pub value : Value

-- A cell: an object has its class and a value for each declared and inherited field, an array its element type and its elements.
pub data Cell : Type 0 where
  Object : (class : Name) (fields : List FieldValue) → Cell
  Array : (element : StaticType) (items : List Value) → Cell

-- The heap: its cells in order of making, without a bound, and the component fields.
pub record Heap : Type 0 where
  pub cells : List Cell
  pub globals : List FieldValue

-- A cell counts as one stored value, plus one for each of its values; it counts also where nothing holds it any more.
abbrev pub size_of : Cell → ℕ
size_of (Object class fields) = 1 + length fields
size_of (Array element items) = 1 + length items

-- A component field counts as one.
abbrev pub stored_values : Heap → ℕ
stored_values h = length h.globals + sum (map size_of h.cells)
