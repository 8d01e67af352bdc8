-- Names of fields and names of methods.
use Rattle.std.specs.Prelude.{◌≡◌, ℕ, ◌&&◌, Bool, true, false, Option, Some, None, slice_get}
use Rattle.vg_syntax.specs.Tree.{Node, Then, ClassDecl, ComponentDecl, FieldDecl, MethodDecl, ConstructorDecl}
use Rattle.vg_source.specs.Names.{Name}
use Rattle.vg_types_tables.specs.declared.declared.MemberNumber.{MemberNumber}
use Rattle.vg_types_tables.specs.declared.declared.MemberNumber.TheVariants.{Field, Method}
use Rattle.vg_types_tables.specs.Declares.{found_in}
use Rattle.vg_types_hierarchy.specs.Inherited.{own_at}
use Rattle.vg_types_homes.specs.Homes.{HomesView}
use Rattle.vg_types_declared.specs.Dispatch.{named_first}

-- A node is a member of a class or component.
abbrev pub is_member : Node → Bool
is_member (FieldDecl at x t e) = true
is_member (MethodDecl at x ps t body) = true
is_member (ConstructorDecl at ps calls arguments body) = true
is_member _ = false

abbrev pub are_members : Node → Bool
are_members (Then m rest) = is_member m && are_members rest
are_members _ = true

-- Where a declaration is a class or a component, members alone stand in it; and so it is for all declarations of a row.
abbrev pub has_members : Node → Bool
has_members (ClassDecl at c above members) = are_members members
has_members (ComponentDecl at c members) = are_members members
has_members _ = true

abbrev pub have_members : Node → Bool
have_members (Then d rest) = has_members d && have_members rest
have_members _ = true

-- Where the map of a class has a field of a name, none of its own methods has the name.
abbrev pub IsApart : Option MemberNumber → Option ℕ → Type 0
IsApart None o = Unit {0}
IsApart (Some (Method m)) o = Unit {0}
IsApart (Some (Field f)) o = o ≡ None

-- So it is for all classes.
pub record AreApart (w : HomesView) : Type 0 where
  pub apart : (c : ℕ) (y : Name)
      → IsApart (found_in y (slice_get w.class_members c)) (named_first w.methods (own_at (slice_get w.class_methods c)) y)
