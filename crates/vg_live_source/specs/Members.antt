-- Members of a program with names, and the places of its heap.
use Rattle.std.specs.Prelude.{ℕ, List, Option, Some, None, slice_get}
use Rattle.vg_source.specs.Names.{Name}
use Rattle.vg_source.specs.Values.{Value, Heap}
use Rattle.vg_source.specs.State.{find_value, field_at, items_at}

-- A member: a method or a field, by the name of the class or component that declares it and its own; or a cell of the heap, by its number in order of making.
pub data Member : Type 0 where
  Method : (owner name : Name) → Member
  Field : (owner name : Name) → Member
  Cell : (k : ℕ) → Member

-- Where a value stands: in a field of a component, in a field of an object, or among the elements of an array.
pub data Place : Type 0 where
  OfComponent : (c f : Name) → Place
  OfObject : (cell : ℕ) (c f : Name) → Place
  OfArray : (cell i : ℕ) → Place

-- An element, where there are any.
abbrev pub item_in : (i : ℕ) → Option (List Value) → Option Value
item_in i (Some vs) = slice_get vs i
item_in i None = None

-- The value at a place.
abbrev pub value_at : Heap → Place → Option Value
value_at h (OfComponent c f) = find_value h.globals c f
value_at h (OfObject k c f) = field_at h k c f
value_at h (OfArray k i) = item_in i (items_at h k)
