-- The rules on what a class declares beside what it inherits.
use Rattle.std.specs.Prelude.{◌&&◌, ◌||◌, Bool, true, false, Option, Some, None}
use Rattle.vg_syntax.specs.Tree.{Node, Then, ClassDecl, FieldDecl, MethodDecl, ConstructorDecl}
use Rattle.vg_source.specs.Names.{Name}
use Rattle.vg_source.specs.Types.{StaticType, NoType}
use Rattle.vg_source.specs.Declared.{written_type, row_of, Member, AField, AMethod, members_of, class_member}
use Rattle.vg_source.specs.Program.{constructor_in}
use Rattle.vg_rules.specs.Breach.{Breach, asks, ◌or◌}
use Rattle.vg_rules.specs.Fits.{same_type}

-- Rule 6 for a field, beside what is inherited under its name: nothing is.
abbrev pub is_free : Option Member → Bool
is_free None = true
is_free (Some m) = false

-- Rule 6 for a method: no field is inherited under its name.
abbrev pub is_no_field : Option Member → Bool
is_no_field (Some (AField c t)) = false
is_no_field _ = true

-- Rule 7: a method that is inherited under this name has the same parameter types and the same result.
abbrev pub overrides : Option Member → (params result : StaticType) → Bool
overrides (Some (AMethod qs s)) ps r = same_type ps qs && same_type r s
overrides _ ps r = true

-- Rules 6 and 7 for the members of a class that extends this one.
abbrev pub overriding_breach : Node → (above : Name) → Node → Option Breach
overriding_breach ds above (Then (FieldDecl at x t e) rest) =
    asks (is_free (class_member ds above x)) 6 at or overriding_breach ds above rest
overriding_breach ds above (Then (MethodDecl at x ps t body) rest) =
    asks (is_no_field (class_member ds above x)) 6 at
    or asks (overrides (class_member ds above x) (row_of ps) (written_type t)) 7 at or overriding_breach ds above rest
overriding_breach ds above (Then m rest) = overriding_breach ds above rest
overriding_breach ds above _ = None

-- The parameter types of the constructor of a class: where none is written it has none.
abbrev pub params_of_class : Node → Name → StaticType
params_of_class ds c = row_of (constructor_in (members_of ds c)).params

abbrev pub has_no_type : StaticType → Bool
has_no_type NoType = true
has_no_type _ = false

-- A constructor is written.
abbrev pub has_constructor : Node → Bool
has_constructor (Then (ConstructorDecl at ps calls args body) rest) = true
has_constructor (Then m rest) = has_constructor rest
has_constructor _ = false

-- Rule 10 for a class without a constructor: that of the class above takes no arguments.
abbrev pub default_keeps : Node → (above : Name) → Node → Bool
default_keeps ds above members = has_constructor members || has_no_type (params_of_class ds above)

-- These rules for all classes.
abbrev pub inherited_breach : Node → Node → Option Breach
inherited_breach ds (Then (ClassDecl at c (Some above) members) rest) =
    overriding_breach ds above members or asks (default_keeps ds above members) 10 at or inherited_breach ds rest
inherited_breach ds (Then d rest) = inherited_breach ds rest
inherited_breach ds _ = None
