-- The members that one class or component declares itself.
use Rattle.std.specs.Prelude.{◌≡◌, ℕ, ◌+◌, Bool, true, false, List, [], ◌∷◌, ◌++◌, length, map, Some}
use Rattle.std.specs.List.{AllByRecursion}
use Rattle.vg_syntax.specs.Tree.{Param, Node, Then, FieldDecl, MethodDecl}
use Rattle.vg_syntax.specs.Numbering.{count_nodes}
use Rattle.vg_tree.specs.declared.node.Node as held
use Rattle.vg_tree.specs.Held.{text_at}
use Rattle.vg_source.specs.Names.{Name}
use Rattle.vg_source.specs.Types.{StaticType}
use Rattle.vg_source.specs.Declared.{written_type}
use Rattle.vg_core.specs.declared.types.CoreType.{CoreType}
use Rattle.vg_core.specs.declared.program.Owner.{Owner}
use Rattle.vg_core.specs.declared.program.Field.{Field as HeldField}
use Rattle.vg_core.specs.declared.program.Method.{Method as HeldMethod}
use Rattle.vg_types_views.specs.ByText.{found, added}
use Rattle.vg_types_tables.specs.declared.declared.MemberNumber.TheVariants as number
use Rattle.vg_types_interned.specs.declared.table.Types.{Types}
use Rattle.vg_types_interned.specs.Types.{type_view, is_made_of, IsFunctionIn}
use Rattle.vg_types_members.specs.declared.member.Home.{Home}
use Rattle.vg_types_members.specs.declared.member.Own.{Own}
use Rattle.vg_types_members.specs.declared.member.Making.{Making}
use Rattle.vg_types_members.specs.declared.member.Signature.{Signature}
use Rattle.vg_types_members.specs.Selectors.{IsNumbering}

-- ---- what fields and methods stand for

-- A field: who declares it, its name, its type and its slot.
pub record FieldView : Type 0 where
  pub owner : Owner
  pub name : Name
  pub type : StaticType
  pub slot : ℕ

-- A method: who declares it, its name, the types of its parameters and that of its result, and how many nodes its body has.
pub record MethodView : Type 0 where
  pub owner : Owner
  pub name : Name
  pub params : List StaticType
  pub result : StaticType
  pub nodes : ℕ

module _ (texts : List (List ℕ)) (types : Types) where
  abbrev pub view_of : CoreType → StaticType
  view_of t = type_view types.classes types.numbers.keys t

  abbrev pub field_view : HeldField → FieldView
  field_view y = record { owner = y.owner; name = text_at texts y.name; type = view_of y.type_; slot = y.slot }

  abbrev pub method_view : HeldMethod → MethodView
  method_view y = record { owner = y.owner; name = text_at texts y.name; params = map view_of y.params; result = view_of y.result; nodes = y.nodes }

-- ---- what is asked of them

-- A type is made of classes and types of the table.
abbrev pub IsMade : Types → CoreType → Type 0
IsMade types t = is_made_of (length types.classes) (length types.numbers.keys) t ≡ true

-- The function type of a signature is that of its parameters and result.
pub record IsSignature (types : Types) (s : Signature) : Type 0 where
  pub params : AllByRecursion (IsMade types) s.params
  pub value : IsMade types s.value
  pub function : IsFunctionIn types.numbers.keys s.params s.value s.function

-- The types of a method are of the table, and its selector is the number of its name.
pub record IsMethod (texts : List (List ℕ)) (types : Types) (selectors : List (Name × ℕ)) (y : HeldMethod) : Type 0 where
  pub params : AllByRecursion (IsMade types) y.params
  pub value : IsMade types y.result
  pub function : IsFunctionIn types.numbers.keys y.params y.result y.function
  pub selector : found (text_at texts y.name) selectors ≡ Some y.selector

-- All fields and methods.
pub record IsMaking (texts : List (List ℕ)) (types : Types) (g : Making) : Type 0 where
  pub numbering : IsNumbering g.selectors
  pub fields : AllByRecursion (λ y. IsMade types y.type_) g.fields
  pub methods : AllByRecursion (IsMethod texts types g.selectors.numbers) g.methods

-- ---- members in order of the text

-- All fields and methods so far, and what the home at hand declares so far.
pub record HomeView : Type 0 where
  pub fields : List FieldView
  pub methods : List MethodView
  pub own : Own

abbrev pub home_view : List (List ℕ) → Types → Making → Own → HomeView
home_view texts types g own = record { fields = map (field_view texts types) g.fields; methods = map (method_view texts types) g.methods; own = own }

-- Nothing is declared yet.
abbrev pub no_own : Own
no_own = record { members = []; fields = []; methods = [] }

-- With one field more, of this name and type.
abbrev pub with_field : Home → Name → StaticType → HomeView → HomeView
with_field h x t v = record {
  fields = v.fields ++ record { owner = h.owner; name = x; type = t; slot = h.slot + length v.own.fields } ∷ [];
  methods = v.methods;
  own = record {
    members = added x (number.Field (length v.fields)) v.own.members;
    fields = v.own.fields ++ length v.fields ∷ [];
    methods = v.own.methods;
  };
}

-- With one method more, of this name, these parameters, this result and so many nodes in its body.
abbrev pub with_method : Home → Name → List StaticType → StaticType → (nodes : ℕ) → HomeView → HomeView
with_method h x ps t n v = record {
  fields = v.fields;
  methods = v.methods ++ record { owner = h.owner; name = x; params = ps; result = t; nodes = n } ∷ [];
  own = record {
    members = added x (number.Method (length v.methods)) v.own.members;
    fields = v.own.fields;
    methods = v.own.methods ++ length v.methods ∷ [];
  };
}

-- The types that are written for parameters.
abbrev pub written_params : List Param → List StaticType
written_params ps = map (λ p. written_type p.type) ps

-- With one member more.
abbrev pub with_member : Home → Node → HomeView → HomeView
with_member h (FieldDecl at x t e) v = with_field h x (written_type t) v
with_member h (MethodDecl at x ps t body) v = with_method h x (written_params ps) (written_type t) (count_nodes body) v
with_member h _ v = v

-- With all members of a row.
abbrev pub with_members : Home → Node → HomeView → HomeView
with_members h (Then m rest) v = with_members h rest (with_member h m v)
with_members h _ v = v

-- A node that the compiler holds is a field or a method.
abbrev pub is_member : held.Node → Bool
is_member (held.FieldDecl' place name type p e) = true
is_member (held.MethodDecl' place name params result p body) = true
is_member _ = false

-- A node that the compiler holds is a constructor.
abbrev pub is_constructor : held.Node → Bool
is_constructor (held.ConstructorDecl' place params calls_super p arguments q body) = true
is_constructor _ = false
