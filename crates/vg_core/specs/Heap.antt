-- The heap, the kinds of its cells, and the places in it.
use Rattle.std.specs.Prelude.{ℕ, ◌+◌, List, length, map, sum, Option, Some, None, slice_get, slice_set, pos, false}
use Rattle.vg_core.specs.declared.types.CoreType.{CoreType}
use Rattle.vg_core.specs.declared.types.CoreType.TheVariants.{IntType, BoolType, CharType, RawType}
use Rattle.vg_core.specs.declared.value.CoreValue.{CoreValue}
use Rattle.vg_core.specs.declared.value.CoreValue.TheVariants.{Int, Bool as Truth, Char, Raw, Null}
use Rattle.vg_core.specs.declared.heap.Cell.{Cell}
use Rattle.vg_core.specs.declared.heap.Cell.TheVariants.{Object, Array}
use Rattle.vg_core.specs.declared.heap.Heap.{Heap}
use Rattle.vg_core.specs.declared.program.Tables.{Tables}
use Rattle.vg_core.specs.Tables.{slot_of, global_slot}

-- What a place holds before anything was put there.
abbrev pub default : CoreType → CoreValue
default IntType = Int (pos 0)
default BoolType = Truth false
default CharType = Char 0
default (RawType k) = Raw k 0
default _ = Null

-- What a run does not change of a cell: the class of an object; the number of the type of the elements and the length of an array.
pub data Kind : Type 0 where
  ObjectOf : (class : ℕ) → Kind
  ArrayOf : (element size : ℕ) → Kind

-- The kind of a cell.
abbrev pub kind_of : Cell → Kind
kind_of (Object c vs) = ObjectOf c
kind_of (Array t vs) = ArrayOf t (length vs)

-- A cell counts as one stored value, plus one for each of its values.
abbrev pub size_of : Cell → ℕ
size_of (Object c vs) = 1 + length vs
size_of (Array t vs) = 1 + length vs

-- A field of a component counts as one.
abbrev pub stored_values : Heap → ℕ
stored_values h = length h.globals + sum (map size_of h.cells)

-- ---- places

-- Where a value stands: in a field of a component, in a field of an object, or among the elements of an array.
pub data Place : Type 0 where
  OfComponent : (f : ℕ) → Place
  OfObject : (cell f : ℕ) → Place
  OfArray : (cell i : ℕ) → Place

-- The value at this place of a list, where there is one.
abbrev pub value_in : Option ℕ → List CoreValue → Option CoreValue
value_in None vs = None
value_in (Some i) vs = slice_get vs i

-- The list with another value at this place.
abbrev pub with_value : Option ℕ → CoreValue → List CoreValue → List CoreValue
with_value None v vs = vs
with_value (Some i) v vs = slice_set vs i v

-- The class of an object.
abbrev pub class_in : Option Cell → Option ℕ
class_in (Some (Object c vs)) = Some c
class_in _ = None

-- The elements of an array.
abbrev pub items_in : Option Cell → Option (List CoreValue)
items_in (Some (Array t vs)) = Some vs
items_in _ = None

-- The value of the field f of an object.
abbrev pub field_in : Tables → (f : ℕ) → Option Cell → Option CoreValue
field_in p f (Some (Object c vs)) = value_in (slot_of p c f) vs
field_in p f _ = None

-- An element of an array.
abbrev pub item_in : (i : ℕ) → Option Cell → Option CoreValue
item_in i (Some (Array t vs)) = slice_get vs i
item_in i _ = None

-- The value at a place.
abbrev pub value_at : Tables → Heap → Place → Option CoreValue
value_at p h (OfComponent f) = value_in (global_slot p f) h.globals
value_at p h (OfObject k f) = field_in p f (slice_get h.cells k)
value_at p h (OfArray k i) = item_in i (slice_get h.cells k)

-- The cells with another value in a field of an object.
abbrev pub with_field : Tables → (f : ℕ) → CoreValue → Option Cell → List Cell → ℕ → List Cell
with_field p f v (Some (Object c vs)) cells k = slice_set cells k (Object c (with_value (slot_of p c f) v vs))
with_field p f v _ cells k = cells

-- The cells with another element of an array.
abbrev pub with_item : (i : ℕ) → CoreValue → Option Cell → List Cell → ℕ → List Cell
with_item i v (Some (Array t vs)) cells k = slice_set cells k (Array t (slice_set vs i v))
with_item i v _ cells k = cells

-- The heap with another value at a place.
abbrev pub set_at : Tables → Place → CoreValue → Heap → Heap
set_at p (OfComponent f) v h = record { cells = h.cells; globals = with_value (global_slot p f) v h.globals }
set_at p (OfObject k f) v h = record { cells = with_field p f v (slice_get h.cells k) h.cells k; globals = h.globals }
set_at p (OfArray k i) v h = record { cells = with_item i v (slice_get h.cells k) h.cells k; globals = h.globals }
