-- Which member is asked for.
use Rattle.std.specs.Prelude.{Option, Some, None}
use Rattle.vg_source.specs.Names.{Name}
use Rattle.vg_source.specs.Values.{Value}
use Rattle.vg_source.specs.Steps.{Class, Source}
use Rattle.vg_source.specs.Steps.{Method as TheMethod}
use Rattle.vg_source.specs.State.{find_value, find_routine, find_class}
use Rattle.vg_live_source.specs.Members.{Member, Method, Field}

-- The first of two that is there.
abbrev pub or_else : Option Member → Option Member → Option Member
or_else (Some y) other = Some y
or_else None other = other

-- A member, where something is there.
abbrev pub where_found : {A : Type 0} → Option A → Member → Option Member
where_found (Some a) y = Some y
where_found None y = None

-- The field f that c declares, among those of the objects of a class.
abbrev pub field_of_class : Option Class → (c f : Name) → Option Value
field_of_class (Some k) c f = find_value k.fields c f
field_of_class None c f = None

-- The member of this name that the class or component of the other name declares: a method or a field. None where it declares no such member.
abbrev pub member_of : Source → (c x : Name) → Option Member
member_of p c x =
    or_else (where_found (find_routine p.routines (TheMethod c x)) (Method c x))
    (or_else (where_found (find_value p.globals c x) (Field c x)) (where_found (field_of_class (find_class p.classes c) c x) (Field c x)))
