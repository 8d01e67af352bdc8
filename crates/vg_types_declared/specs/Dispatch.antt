-- Which of the methods that a class declares itself has a name.
use Rattle.std.specs.Prelude.{◌≡◌, ℕ, Bool, false, List, [], ◌∷◌, Option, Some, None, slice_get, bytes_eq, if◌then◌else◌}
use Rattle.vg_source.specs.Names.{Name}
use Rattle.vg_types_tables.specs.declared.declared.MemberNumber.{MemberNumber}
use Rattle.vg_types_tables.specs.declared.declared.MemberNumber.TheVariants.{Field, Method}
use Rattle.vg_types_tables.specs.Declares.{found_in}
use Rattle.vg_types_hierarchy.specs.Inherited.{own_at}
use Rattle.vg_types_members.specs.Members.{MethodView}
use Rattle.vg_types_homes.specs.Homes.{HomesView}

-- A method has this name.
abbrev pub has_name : Option MethodView → Name → Bool
has_name (Some t) y = bytes_eq t.name y
has_name None y = false

-- The first method of this name.
abbrev pub named_first : List MethodView → List ℕ → Name → Option ℕ
named_first methods [] y = None
named_first methods (m ∷ ms) y = if has_name (slice_get methods m) y then Some m else named_first methods ms y

-- Where the map of a class has no member of a name, none of its own methods has the name; where it has a method, that is the first of the name.
abbrev pub Leads : Option MemberNumber → Option ℕ → Type 0
Leads None o = o ≡ None
Leads (Some (Method m)) o = o ≡ Some m
Leads (Some (Field f)) o = Unit {0}

-- So it is for all classes.
pub record Dispatches (w : HomesView) : Type 0 where
  pub methods : (c : ℕ) (y : Name)
      → Leads (found_in y (slice_get w.class_members c)) (named_first w.methods (own_at (slice_get w.class_methods c)) y)
