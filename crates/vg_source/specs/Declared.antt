-- The declarations of a text, by name. Where two have one name, the first is meant.
use Rattle.std.specs.Prelude.{ℕ, zero, suc, List, [], ◌∷◌, ◌++◌, Option, Some, None, if◌then◌else◌, bytes_eq}
use Rattle.vg_syntax.specs.Tree.{TypeTree, Param, Node, Nothing, Then, ClassDecl, ComponentDecl, DeviceDecl, RegisterDecl, FieldDecl, MethodDecl}
use Rattle.vg_syntax.specs.Tree as tree
use Rattle.vg_syntax.specs.Classes.{ClassParts, class_named}
use Rattle.vg_source.specs.Names.{Name}
use Rattle.vg_source.specs.Types.{StaticType, IntType, BoolType, CharType, RawType, ClassType, ArrayType, FunctionType, NoType, MoreTypes}
use Rattle.vg_source.specs.Values.{FieldValue, default}
use Rattle.vg_source.specs.Literals.{number_of}

-- The type that is written.
abbrev pub written_type : TypeTree → StaticType
written_type tree.IntType = IntType
written_type tree.BoolType = BoolType
written_type tree.CharType = CharType
written_type (tree.RawType width) = RawType (number_of width)
written_type (tree.ClassType name) = ClassType name
written_type (tree.ArrayType element) = ArrayType (written_type element)
written_type (tree.FunctionType params result) = FunctionType (written_type params) (written_type result)
written_type tree.NoType = NoType
written_type (tree.MoreTypes first rest) = MoreTypes (written_type first) (written_type rest)

-- The types of parameters as a row.
abbrev pub row_of : List Param → StaticType
row_of [] = NoType
row_of (p ∷ ps) = MoreTypes (written_type p.type) (row_of ps)

-- What a member is: a field with the class or component that declares it, or a method.
pub data Member : Type 0 where
  AField : (owner : Name) (type : StaticType) → Member
  AMethod : (params result : StaticType) → Member

-- The first of two that is there.
abbrev pub or_else : {A : Type 0} → Option A → Option A → Option A
or_else (Some a) b = Some a
or_else None b = b

-- A member declaration of this name, of this class or component.
abbrev pub as_member : (owner : Name) → Node → Name → Option Member
as_member owner (FieldDecl at n t value) x = if bytes_eq n x then Some (AField owner (written_type t)) else None
as_member owner (MethodDecl at n ps t body) x = if bytes_eq n x then Some (AMethod (row_of ps) (written_type t)) else None
as_member owner _ x = None

-- The member of this name among these, which are those of this class or component.
abbrev pub member_in : (owner : Name) → Node → Name → Option Member
member_in owner (Then m rest) x = or_else (as_member owner m x) (member_in owner rest x)
member_in owner _ x = None

-- The members of a component declaration of this name.
abbrev pub as_component : Node → Name → Option Node
as_component (ComponentDecl at n members) c = if bytes_eq n c then Some members else None
as_component _ c = None

-- The members of the component of this name.
abbrev pub component_named : Node → Name → Option Node
component_named (Then d rest) c = or_else (as_component d c) (component_named rest c)
component_named _ c = None

-- The registers of a device declaration of this name.
abbrev pub as_device : Node → Name → Option Node
as_device (DeviceDecl at n registers) d = if bytes_eq n d then Some registers else None
as_device _ d = None

-- The registers of the device of this name.
abbrev pub device_named : Node → Name → Option Node
device_named (Then d rest) x = or_else (as_device d x) (device_named rest x)
device_named _ x = None

-- The address of a register declaration of this name.
abbrev pub as_register : Node → Name → Option ℕ
as_register (RegisterDecl at n number) x = if bytes_eq n x then Some (number_of number) else None
as_register _ x = None

-- The address of the register of this name among these.
abbrev pub register_in : Node → Name → Option ℕ
register_in (Then r rest) x = or_else (as_register r x) (register_in rest x)
register_in _ x = None

-- How many nodes stand in a row.
abbrev pub length_of : Node → ℕ
length_of (Then a rest) = suc (length_of rest)
length_of _ = zero

-- The superclass of a class, where it has one.
abbrev pub above_of : Option ClassParts → Option Name
above_of (Some k) = k.above
above_of None = None

-- A class and those above it, the nearest first: at most n of them.
abbrev pub chain_from : ℕ → Node → Option Name → List Name
chain_from (suc n) ds (Some c) = c ∷ chain_from n ds (above_of (class_named ds c))
chain_from _ ds _ = []

-- A class and all above it, the nearest first: there are no more of them than declarations.
abbrev pub chain_of : Node → Name → List Name
chain_of ds c = chain_from (length_of ds) ds (Some c)

-- The members of a class, where it is there.
abbrev pub members_in : Option ClassParts → Node
members_in (Some k) = k.members
members_in None = Nothing

-- The members of the class of this name.
abbrev pub members_of : Node → Name → Node
members_of ds c = members_in (class_named ds c)

-- The first member of this name on a chain.
abbrev pub member_on : Node → List Name → Name → Option Member
member_on ds [] x = None
member_on ds (c ∷ cs) x = or_else (member_in c (members_of ds c) x) (member_on ds cs x)

-- The member of this name of a class or of those above it.
abbrev pub class_member : Node → Name → Name → Option Member
class_member ds c x = member_on ds (chain_of ds c) x

-- The member of this name among those of a component, where it is there.
abbrev pub member_among : (owner : Name) → Option Node → Name → Option Member
member_among owner (Some members) x = member_in owner members x
member_among owner None x = None

-- The member of this name of a component.
abbrev pub component_member : Node → Name → Name → Option Member
component_member ds c x = member_among c (component_named ds c) x

-- The field of a declaration, with its default.
abbrev pub declared_field : (owner : Name) → Node → List FieldValue
declared_field owner (FieldDecl at n t value) = record { owner = owner; name = n; value = default (written_type t) } ∷ []
declared_field owner _ = []

-- The fields among members, in order of the text.
abbrev pub fields_in : (owner : Name) → Node → List FieldValue
fields_in owner (Then m rest) = declared_field owner m ++ fields_in owner rest
fields_in owner _ = []

-- The fields of the classes of a chain, those of the highest class first.
abbrev pub fields_on : Node → List Name → List FieldValue
fields_on ds [] = []
fields_on ds (c ∷ cs) = fields_on ds cs ++ fields_in c (members_of ds c)
