-- Members by their names: the numbers of `Name`s stand for the names.
use Rattle.std.specs.Prelude.{ℕ, suc, ◌==◌, ◌&&◌, Bool, false, List, [], ◌∷◌, Option, Some, None, slice_get, if◌then◌else◌}
use Rattle.vg_core.specs.declared.member.Member.{Member}
use Rattle.vg_core.specs.declared.member.Member.TheVariants.{Method as TheMethod, Field as TheField}
use Rattle.vg_core.specs.declared.program.Owner.{Owner}
use Rattle.vg_core.specs.declared.program.Owner.TheVariants.{InClass, InComponent}
use Rattle.vg_core.specs.declared.program.Field.{Field}
use Rattle.vg_core.specs.declared.program.Method.{Method}
use Rattle.vg_core.specs.declared.program.Class.{Class}
use Rattle.vg_core.specs.declared.program.Tables.{Tables}

-- A class has this name.
abbrev pub class_has : (name : ℕ) → Option Class → Bool
class_has name (Some k) = k.name == name
class_has name None = false

-- A component has this name.
abbrev pub component_has : (name : ℕ) → Option ℕ → Bool
component_has name (Some x) = x == name
component_has name None = false

-- The owner is a class or component of this name.
abbrev pub owner_has : Tables → (name : ℕ) → Owner → Bool
owner_has p name (InClass c) = class_has name (slice_get p.classes c)
owner_has p name (InComponent k) = component_has name (slice_get p.components k)

-- The owner has the one name and its member the other.
abbrev pub is_member : Tables → (class member : ℕ) → Owner → (name : ℕ) → Bool
is_member p class member o name = owner_has p class o && (name == member)

-- The first such method of these, whose numbers go on from k.
abbrev pub first_method : Tables → (class member k : ℕ) → List Method → Option Member
first_method p class member k [] = None
first_method p class member k (m ∷ ms) =
    if is_member p class member m.owner m.name then Some (TheMethod k) else first_method p class member (suc k) ms

-- The first such field of these, whose numbers go on from k.
abbrev pub first_field : Tables → (class member k : ℕ) → List Field → Option Member
first_field p class member k [] = None
first_field p class member k (f ∷ fs) =
    if is_member p class member f.owner f.name then Some (TheField k) else first_field p class member (suc k) fs

-- The one, where it is there, else the other.
abbrev pub or_else : Option Member → Option Member → Option Member
or_else (Some m) other = Some m
or_else None other = other

-- The member of this name that the class or component of the other name declares.
abbrev pub member_of : Tables → (class member : ℕ) → Option Member
member_of p class member = or_else (first_method p class member 0 p.methods) (first_field p class member 0 p.fields)
