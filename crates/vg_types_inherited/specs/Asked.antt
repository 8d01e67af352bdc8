-- Mirrors: how the code asks what classes inherit. No clause of a public function cites them.
use Rattle.std.specs.Prelude.{◌≡◌, ℕ, Bool, true, false, Option, Some, None, slice_get, if◌then◌else◌}
use Rattle.vg_syntax.specs.Tree.{Node, ClassDecl, FieldDecl, MethodDecl}
use Rattle.vg_tree.specs.declared.node.Node as held
use Rattle.vg_source.specs.Names.{Name}
use Rattle.vg_source.specs.Types.{StaticType}
use Rattle.vg_source.specs.Declared.{Member, written_type, row_of, class_member}
use Rattle.vg_rules.specs.Breach.{Breach, ◌or◌}
use Rattle.vg_rules.specs.Inherited.{is_free, is_no_field, overrides, overriding_breach, default_keeps}
use Rattle.vg_core.specs.declared.program.Field.{Field}
use Rattle.vg_core.specs.declared.program.Method.{Method}
use Rattle.vg_core.specs.declared.program.Tables.{Tables}
use Rattle.vg_types_tables.specs.declared.declared.MemberNumber.{MemberNumber}
use Rattle.vg_types_tables.specs.declared.declared.MemberNumber.TheVariants.{Field as FieldNumber, Method as MethodNumber}

-- ---- members

-- a method is in the tables
abbrev pub IsMethodNumber : Tables → ℕ → Type 0
IsMethodNumber p m = (y : Method) × (slice_get p.methods m ≡ Some y)

-- a member is in the tables
abbrev pub IsInTables : Tables → MemberNumber → Type 0
IsInTables p (FieldNumber f) = (y : Field) × (slice_get p.fields f ≡ Some y)
IsInTables p (MethodNumber m) = IsMethodNumber p m

-- the rule that a field breaks beside what is inherited under its name
abbrev pub field_rule : Option MemberNumber → Option ℕ
field_rule (Some m) = Some 6
field_rule None = None

-- the rule that a method breaks
abbrev pub method_rule : Option Member → (params result : StaticType) → Option ℕ
method_rule m ps r = if is_no_field m then (if overrides m ps r then None else Some 7) else Some 6

-- the rule that a member breaks
abbrev pub member_rule : Node → (above : Name) → Node → Option ℕ
member_rule ds above (FieldDecl at x t e) = if is_free (class_member ds above x) then None else Some 6
member_rule ds above (MethodDecl at x ps t body) = method_rule (class_member ds above x) (row_of ps) (written_type t)
member_rule ds above _ = None

-- a member is a constructor
abbrev pub is_constructor : held.Node → Bool
is_constructor (held.ConstructorDecl' place params calls_super p arguments q body) = true
is_constructor _ = false

-- ---- declarations

-- a class without a constructor that does not keep the rule
abbrev pub default_breach : Bool → (node : ℕ) → Option Breach
default_breach true i = None
default_breach false i = Some (record { rule = 10; node = i })

-- the first breach in one declaration
abbrev pub one_breach : Node → Node → Option Breach
one_breach ds (ClassDecl at c (Some above) members) = overriding_breach ds above members or default_breach (default_keeps ds above members) at.id
one_breach ds _ = None
