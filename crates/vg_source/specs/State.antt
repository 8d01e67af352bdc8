-- What an evaluation has in hand, and the look-ups in it.
use Rattle.std.specs.Prelude.{ℕ, ◌==◌, ◌&&◌, Bool, false, List, [], ◌∷◌, ◌++◌, take, drop, reverse, Option, Some, None, slice_get, slice_set, if◌then◌else◌}
use Rattle.std.specs.Prelude.{bytes_eq}
use Rattle.vg_source.specs.Names.{Name, is_among}
use Rattle.vg_source.specs.Values.{Value, FieldValue, Heap, Cell, Object, Array}
use Rattle.vg_source.specs.Steps.{Source, Class, Routine, Target, Method, Construct, Start, Handler}

-- The state: the values that wait, the newest first; the parameters and locals of the body by their numbers; its receiver; the heap.
pub record State : Type 0 where
  pub values : List Value
  pub locals : List Value
  pub self : Value
  pub heap : Heap

-- The value of the field f that c declares.
abbrev pub find_value : List FieldValue → (c f : Name) → Option Value
find_value [] c f = None
find_value (v ∷ vs) c f = if bytes_eq v.owner c && bytes_eq v.name f then Some v.value else find_value vs c f

-- The field f that c declares is set, where it is there.
abbrev pub set_value : List FieldValue → (c f : Name) → Value → List FieldValue
set_value [] c f x = []
set_value (v ∷ vs) c f x =
    if bytes_eq v.owner c && bytes_eq v.name f then record v { value = x } ∷ vs else v ∷ set_value vs c f x

-- Two targets are the same.
abbrev pub same_target : Target → Target → Bool
same_target (Method c m) (Method d n) = bytes_eq c d && bytes_eq m n
same_target (Construct c) (Construct d) = bytes_eq c d
same_target (Start c) (Start d) = bytes_eq c d
same_target _ _ = false

-- The routine of a target.
abbrev pub find_routine : List Routine → Target → Option Routine
find_routine [] t = None
find_routine (r ∷ rs) t = if same_target r.target t then Some r else find_routine rs t

-- The routine, where it has so many parameters.
abbrev pub of_count : ℕ → Option Routine → Option Routine
of_count count None = None
of_count count (Some r) = if r.params == count then Some r else None

-- The routine of a target that is called with so many arguments.
abbrev pub find_called : List Routine → Target → (count : ℕ) → Option Routine
find_called rs t count = of_count count (find_routine rs t)

-- The class of a name.
abbrev pub find_class : List Class → Name → Option Class
find_class [] c = None
find_class (k ∷ ks) c = if bytes_eq k.name c then Some k else find_class ks c

-- The names of a class and of all above it, where the class is there.
abbrev pub chain_in : Option Class → List Name
chain_in None = []
chain_in (Some k) = k.above

-- A class and all above it, the nearest first.
abbrev pub chain : Source → Name → List Name
chain p c = chain_in (find_class p.classes c)

-- Class c is d or below it.
abbrev pub is_below : Source → Name → Name → Bool
is_below p c d = is_among (chain p c) d

-- This name where something is there, else the other.
abbrev pub name_where : {A : Type 0} → Option A → Name → Option Name → Option Name
name_where (Some a) c other = Some c
name_where None c other = other

-- The first class of a chain that declares the method.
abbrev pub owner_on : Source → List Name → Name → Option Name
owner_on p [] m = None
owner_on p (c ∷ cs) m = name_where (find_routine p.routines (Method c m)) c (owner_on p cs m)

-- The class whose method m an object of class c has.
abbrev pub owner_of : Source → Name → Name → Option Name
owner_of p c m = owner_on p (chain p c) m

-- The handler of a vector.
abbrev pub handler_of : List Handler → ℕ → Option Target
handler_of [] k = None
handler_of (h ∷ hs) k = if h.vector == k then Some h.target else handler_of hs k

-- The class of an object.
abbrev pub class_in : Option Cell → Option Name
class_in (Some (Object class fields)) = Some class
class_in _ = None

-- The class of the object in a cell of the heap.
abbrev pub class_at : Heap → ℕ → Option Name
class_at h k = class_in (slice_get h.cells k)

-- The value of an object's field f that class c declares.
abbrev pub field_in : (c f : Name) → Option Cell → Option Value
field_in c f (Some (Object class fields)) = find_value fields c f
field_in c f _ = None

-- The value of a field of the object in a cell of the heap.
abbrev pub field_at : Heap → ℕ → (c f : Name) → Option Value
field_at h k c f = field_in c f (slice_get h.cells k)

-- The elements of an array.
abbrev pub items_in : Option Cell → Option (List Value)
items_in (Some (Array element items)) = Some items
items_in _ = None

-- The elements of the array in a cell of the heap.
abbrev pub items_at : Heap → ℕ → Option (List Value)
items_at h k = items_in (slice_get h.cells k)

-- The cells with an object's field set.
abbrev pub with_field : (c f : Name) → Value → Option Cell → List Cell → ℕ → List Cell
with_field c f v (Some (Object class fields)) cells k = slice_set cells k (Object class (set_value fields c f v))
with_field c f v _ cells k = cells

-- The heap with a field of an object set.
abbrev pub set_field : Heap → ℕ → (c f : Name) → Value → Heap
set_field h k c f v = record h { cells = with_field c f v (slice_get h.cells k) h.cells k }

-- The cells with an array's element set.
abbrev pub with_item : ℕ → Value → Option Cell → List Cell → ℕ → List Cell
with_item i v (Some (Array element items)) cells k = slice_set cells k (Array element (slice_set items i v))
with_item i v _ cells k = cells

-- The heap with an element of an array set.
abbrev pub set_item : Heap → ℕ → ℕ → Value → Heap
set_item h k i v = record h { cells = with_item i v (slice_get h.cells k) h.cells k }

-- The state of a body: the newest values of its caller are its arguments, and its other locals have their defaults.
abbrev pub entered : Routine → ℕ → Value → State → State
entered r count self s =
    record { values = []; locals = reverse (take count s.values) ++ r.others; self = self; heap = s.heap }

-- The state of the caller behind the call: the call's value stands in place of the arguments.
abbrev pub left : ℕ → State → Value → State → State
left count s v body = record { values = v ∷ drop count s.values; locals = s.locals; self = s.self; heap = body.heap }
