-- Look-ups in the tables of a program. Where a number is in no table nothing is found.
use Rattle.std.specs.Prelude.{◌≡◌, ℕ, ◌==◌, ◌||◌, Bool, true, false, List, [], ◌∷◌, Option, Some, None, slice_get, if◌then◌else◌}
use Rattle.vg_core.specs.declared.types.CoreType.{CoreType}
use Rattle.vg_core.specs.declared.types.CoreType.TheVariants.{NoType, MoreTypes}
use Rattle.vg_core.specs.declared.program.Owner.{Owner}
use Rattle.vg_core.specs.declared.program.Owner.TheVariants.{InClass, InComponent}
use Rattle.vg_core.specs.declared.program.Field.{Field}
use Rattle.vg_core.specs.declared.program.Method.{Method}
use Rattle.vg_core.specs.declared.program.Class.{Class}
use Rattle.vg_core.specs.declared.program.Tables.{Tables}

-- ---- classes

-- A number is one of a list.
abbrev pub is_in : List ℕ → ℕ → Bool
is_in [] n = false
is_in (m ∷ ms) n = m == n || is_in ms n

-- A class and all above it.
abbrev pub above_in : Option Class → List ℕ
above_in None = []
above_in (Some k) = k.above

-- Class c is d or below it.
abbrev pub is_below : Tables → (c d : ℕ) → Bool
is_below p c d = is_in (above_in (slice_get p.classes c)) d

-- The last of a list.
abbrev pub last_from : ℕ → List ℕ → ℕ
last_from n [] = n
last_from n (m ∷ ms) = last_from m ms

-- The last of a list, where it has one.
abbrev pub last_of : List ℕ → Option ℕ
last_of [] = None
last_of (n ∷ ns) = Some (last_from n ns)

-- The highest class above a class, or that class itself, where the class is there.
abbrev pub top : Tables → ℕ → Option ℕ
top p c = last_of (above_in (slice_get p.classes c))

-- Two numbers are there, and are the same.
abbrev pub both_same : Option ℕ → Option ℕ → Bool
both_same (Some m) (Some n) = m == n
both_same _ _ = false

-- Two classes are of one hierarchy.
abbrev pub one_hierarchy : Tables → (c d : ℕ) → Bool
one_hierarchy p c d = both_same (top p c) (top p d)

-- ---- methods

-- A method has this selector.
abbrev pub has_selector : Option Method → ℕ → Bool
has_selector None s = false
has_selector (Some m) s = m.selector == s

-- The first method of this selector.
abbrev pub find_selector : Tables → List ℕ → ℕ → Option ℕ
find_selector p [] s = None
find_selector p (m ∷ ms) s = if has_selector (slice_get p.methods m) s then Some m else find_selector p ms s

-- The methods that the objects of a class have.
abbrev pub methods_in : Option Class → List ℕ
methods_in None = []
methods_in (Some k) = k.methods

-- The method that an object of class c has for a selector.
abbrev pub dispatch : Tables → (c s : ℕ) → Option ℕ
dispatch p c s = find_selector p (methods_in (slice_get p.classes c)) s

-- ---- fields

-- Objects of class c have what this owner declares.
abbrev pub has_fields_of : Tables → (c : ℕ) → Owner → Bool
has_fields_of p c (InClass d) = is_below p c d
has_fields_of p c (InComponent k) = false

-- The owner is a component.
abbrev pub is_component : Owner → Bool
is_component (InClass d) = false
is_component (InComponent k) = true

-- The slot of a field, where this holds.
abbrev pub slot_where : Bool → Field → Option ℕ
slot_where true f = Some f.slot
slot_where false f = None

-- The place of a field among the values of objects of class c.
abbrev pub slot_in : Tables → (c : ℕ) → Option Field → Option ℕ
slot_in p c None = None
slot_in p c (Some f) = slot_where (has_fields_of p c f.owner) f

-- The place of the field f among the values of objects of class c, where they have it.
abbrev pub slot_of : Tables → (c f : ℕ) → Option ℕ
slot_of p c f = slot_in p c (slice_get p.fields f)

-- The place of a field among those of all components.
abbrev pub global_slot_in : Option Field → Option ℕ
global_slot_in None = None
global_slot_in (Some f) = slot_where (is_component f.owner) f

-- The place of the field f among those of all components, where it is one.
abbrev pub global_slot : Tables → (f : ℕ) → Option ℕ
global_slot p f = global_slot_in (slice_get p.fields f)

-- The type of a field.
abbrev pub type_in : Option Field → Option CoreType
type_in None = None
type_in (Some f) = Some f.type_

-- The type of the field f.
abbrev pub field_type : Tables → (f : ℕ) → Option CoreType
field_type p f = type_in (slice_get p.fields f)

-- The fields of the objects of a class.
abbrev pub fields_in : Option Class → List ℕ
fields_in None = []
fields_in (Some k) = k.fields

-- ---- types

-- The function type of a method.
abbrev pub function_of : Tables → Method → Option CoreType
function_of p m = slice_get p.types m.function

-- The number n is that of the row of these types.
abbrev pub IsRow : Tables → List CoreType → (n : ℕ) → Type 0
IsRow p [] n = slice_get p.types n ≡ Some NoType
IsRow p (t ∷ ts) n =
    (first rest : ℕ) × (slice_get p.types n ≡ Some (MoreTypes first rest)) × (slice_get p.types first ≡ Some t) × IsRow p ts rest
