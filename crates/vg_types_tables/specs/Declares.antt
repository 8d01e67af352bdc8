-- When the tables are those of a text.
use Rattle.std.specs.Prelude.{◌≡◌, ◌↔◌, ◌<◌, true, ℕ, List, [], ◌∷◌, slice_get, Option, Some, None, is_some}
use Rattle.std.specs.List.{AllByRecursion}
use Rattle.std.specs.Option.{option_and_then}
use Rattle.vg_syntax.specs.Classes.{class_named}
use Rattle.vg_tree.specs.declared.node.Node as held_node
use Rattle.vg_source.specs.Names.{Name}
use Rattle.vg_source.specs.Nodes.{literal_nodes, literals}
use Rattle.vg_source.specs.Declared.{component_named, device_named, class_member, component_member, or_else}
use Rattle.vg_source.specs.Resolved.{register_of}
use Rattle.vg_rules.specs.Fits.{is_below}
use Rattle.vg_rules.specs.Inherited.{params_of_class}
use Rattle.vg_core.specs.declared.program.Class.{Class}
use Rattle.vg_core.specs.declared.program.Field.{Field}
use Rattle.vg_core.specs.declared.program.Method.{Method}
use Rattle.vg_core.specs.declared.program.Tables.{Tables}
use Rattle.vg_core.specs.declared.program.Owner.TheVariants.{InClass, InComponent}
use Rattle.vg_core.specs.declared.types.CoreType.{CoreType}
use Rattle.vg_core.specs.declared.types.CoreType.TheVariants.{ClassType, ArrayType, FunctionType, MoreTypes, CharType}
use Rattle.vg_core.specs.Tables as tables
use Rattle.vg_core.specs.Typing.{HasFunction}
use Rattle.vg_types_views.specs.ByText.{found}
use Rattle.vg_types_tables.specs.declared.declared.Declared.{Declared}
use Rattle.vg_types_tables.specs.declared.declared.MemberNumber.{MemberNumber}
use Rattle.vg_types_tables.specs.declared.declared.MemberNumber.TheVariants.{Field as FieldNumber, Method as MethodNumber}
use Rattle.vg_types_tables.specs.Views.{declarations_at, naming, row_view, member_view}

-- ---- types

-- A class is in the tables.
abbrev pub IsClass : Tables → ℕ → Type 0
IsClass p c = (k : Class) × (slice_get p.classes c ≡ Some k)

-- A component is in the tables.
abbrev pub IsComponent : Tables → ℕ → Type 0
IsComponent p k = (name : ℕ) × (slice_get p.components k ≡ Some name)

-- The number of a type.
abbrev pub IsTypeNumber : Tables → ℕ → Type 0
IsTypeNumber p n = (t : CoreType) × (slice_get p.types n ≡ Some t)

-- A type whose parts are in the tables.
abbrev pub IsKnown : Tables → CoreType → Type 0
IsKnown p (ClassType c) = IsClass p c
IsKnown p (ArrayType t) = IsTypeNumber p t
IsKnown p (FunctionType ps r) = IsTypeNumber p ps × IsTypeNumber p r
IsKnown p (MoreTypes t rest) = IsTypeNumber p t × IsTypeNumber p rest
IsKnown p _ = Unit {0}

-- A type is made of types with lower numbers.
abbrev pub IsMadeBelow : Tables → (n : ℕ) → CoreType → Type 0
IsMadeBelow p n (ClassType c) = IsClass p c
IsMadeBelow p n (ArrayType t) = t < n
IsMadeBelow p n (FunctionType ps r) = (ps < n) × (r < n)
IsMadeBelow p n (MoreTypes t rest) = (t < n) × (rest < n)
IsMadeBelow p n _ = Unit {0}

-- ---- members

-- What a text is mapped to, where there is a map.
abbrev pub found_in : {V : Type 0} → Name → Option (List (Name × V)) → Option V
found_in x (Some es) = found x es
found_in x None = None

-- The first member of this name that one of these classes declares itself.
abbrev pub member_of : Declared → (chain : List ℕ) → Name → Option MemberNumber
member_of d [] x = None
member_of d (c ∷ cs) x = or_else (found_in x (slice_get d.class_members c)) (member_of d cs x)

-- The address of a register of a device.
abbrev pub register_at : Declared → Option ℕ → Name → Option ℕ
register_at d (Some k) x = found_in x (slice_get d.registers k)
register_at d None x = None

-- What objects of class c have under this name: a field of the class or of one above it, or the method that they have for its selector.
abbrev pub IsMemberOf : (texts : List (List ℕ)) → Declared → (c : ℕ) → Name → MemberNumber → Type 0
IsMemberOf texts d c x (FieldNumber f) =
    (y : Field) × (e : ℕ) × (slice_get d.tables.fields f ≡ Some y) × (y.owner ≡ InClass e) × (tables.is_below d.tables c e ≡ true)
    × (((naming texts d).field f).name ≡ x)
IsMemberOf texts d c x (MethodNumber m) =
    (y : Method) × (slice_get d.tables.methods m ≡ Some y) × (tables.dispatch d.tables c y.selector ≡ Some m)
    × ((naming texts d).selector y.selector ≡ x) × (((naming texts d).method m).name ≡ x)

-- What component k has under this name.
abbrev pub IsMemberOfComponent : (texts : List (List ℕ)) → Declared → (k : ℕ) → Name → MemberNumber → Type 0
IsMemberOfComponent texts d k x (FieldNumber f) =
    (y : Field) × (slice_get d.tables.fields f ≡ Some y) × (y.owner ≡ InComponent k) × (((naming texts d).field f).name ≡ x)
IsMemberOfComponent texts d k x (MethodNumber m) =
    (y : Method) × (slice_get d.tables.methods m ≡ Some y) × (y.owner ≡ InComponent k) × (((naming texts d).method m).name ≡ x)

-- ---- the tables

-- What the tables keep, whatever is inherited under one name: all that well formed tables keep but for what overrides what.
pub record IsFormed (p : Tables) : Type 0 where
  pub itself : (c : ℕ) (k : Class) → slice_get p.classes c ≡ Some k → tables.is_below p c c ≡ true
  pub trans : (c d e : ℕ) → tables.is_below p c d ≡ true → tables.is_below p d e ≡ true → tables.is_below p c e ≡ true
  pub one_top : (c d : ℕ) → tables.is_below p c d ≡ true → tables.top p c ≡ tables.top p d
  pub slots : (c i f : ℕ) (k : Class) → slice_get p.classes c ≡ Some k → (slice_get k.fields i ≡ Some f) ↔ (tables.slot_of p c f ≡ Some i)
  pub global_slots : (i f : ℕ) → (slice_get p.globals i ≡ Some f) ↔ (tables.global_slot p f ≡ Some i)
  pub functions : (m : ℕ) (y : Method) → slice_get p.methods m ≡ Some y → HasFunction p y
  pub one_number : (i j : ℕ) (t : CoreType) → slice_get p.types i ≡ Some t → slice_get p.types j ≡ Some t → i ≡ j
  pub char_type : slice_get p.types p.char_type ≡ Some CharType
  -- all types that stand in the tables are known there
  pub made_below : (n : ℕ) (t : CoreType) → slice_get p.types n ≡ Some t → IsMadeBelow p n t
  pub known_fields : (f : ℕ) (y : Field) → slice_get p.fields f ≡ Some y → IsKnown p y.type_
  pub known_params : (m : ℕ) (y : Method) → slice_get p.methods m ≡ Some y → AllByRecursion (IsKnown p) y.params
  pub known_results : (m : ℕ) (y : Method) → slice_get p.methods m ≡ Some y → IsKnown p y.result
  pub known_makings : (c : ℕ) (k : Class) → slice_get p.classes c ≡ Some k → AllByRecursion (IsKnown p) k.params
  -- a class that is above another is in the tables
  pub classes_above : (c e : ℕ) → tables.is_below p c e ≡ true → IsClass p e

-- The tables are those of the declarations of a text: each look-up by a name finds what the definition finds.
pub record Declares (texts : List (List ℕ)) (root : held_node.Node) (d : Declared) : Type 0 where
  pub classes : (x : Name) → is_some (found x d.classes) ≡ is_some (class_named (declarations_at texts root) x)
  pub class_names : (x : Name) (c : ℕ) → found x d.classes ≡ Some c → IsClass d.tables c × ((naming texts d).class c ≡ x)
  pub class_found : (c : ℕ) (k : Class) → slice_get d.tables.classes c ≡ Some k → found ((naming texts d).class c) d.classes ≡ Some c
  pub components : (x : Name) → is_some (found x d.components) ≡ is_some (component_named (declarations_at texts root) x)
  pub component_names : (x : Name) (k : ℕ) → found x d.components ≡ Some k → IsComponent d.tables k × ((naming texts d).component k ≡ x)
  pub devices : (x : Name) → is_some (found x d.devices) ≡ is_some (device_named (declarations_at texts root) x)
  pub registers : (x y : Name) → register_at d (found x d.devices) y ≡ register_of (device_named (declarations_at texts root) x) y
  pub members : (c : ℕ) (k : Class) (x : Name) → slice_get d.tables.classes c ≡ Some k
      → option_and_then (member_view texts d) (member_of d k.above x) ≡ class_member (declarations_at texts root) ((naming texts d).class c) x
  pub member_is : (c : ℕ) (k : Class) (x : Name) (m : MemberNumber) → slice_get d.tables.classes c ≡ Some k → member_of d k.above x ≡ Some m
      → IsMemberOf texts d c x m
  pub component_members : (k y : ℕ) (x : Name) → slice_get d.tables.components k ≡ Some y
      → option_and_then (member_view texts d) (found_in x (slice_get d.component_members k))
      ≡ component_member (declarations_at texts root) ((naming texts d).component k) x
  pub component_member_is : (k y : ℕ) (x : Name) (m : MemberNumber) → slice_get d.tables.components k ≡ Some y
      → found_in x (slice_get d.component_members k) ≡ Some m → IsMemberOfComponent texts d k x m
  pub params : (c : ℕ) (k : Class) → slice_get d.tables.classes c ≡ Some k
      → row_view texts d k.params ≡ params_of_class (declarations_at texts root) ((naming texts d).class c)
  pub below : (c e : ℕ) (k l : Class) → slice_get d.tables.classes c ≡ Some k → slice_get d.tables.classes e ≡ Some l
      → tables.is_below d.tables c e ≡ is_below (declarations_at texts root) ((naming texts d).class c) ((naming texts d).class e)
  pub literal_nodes : d.literal_nodes.keys ≡ literal_nodes (declarations_at texts root)
  pub literals : d.tables.literals ≡ literals (declarations_at texts root)
  pub formed : IsFormed d.tables
  pub type_numbers : d.type_numbers.keys ≡ d.tables.types
