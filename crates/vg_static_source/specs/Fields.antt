-- The fields that a text declares, with their types.
use Rattle.std.specs.Prelude.{List, [], ◌∷◌, ◌++◌}
use Rattle.vg_syntax.specs.Tree.{Node, Then, ClassDecl, ComponentDecl, FieldDecl}
use Rattle.vg_source.specs.Names.{Name}
use Rattle.vg_source.specs.Types.{StaticType}
use Rattle.vg_source.specs.Declared.{written_type}
use Rattle.vg_source.specs.Resolved.{Owner, InClass, InComponent}
use Rattle.vg_source.specs.Program.{declarations_of}

-- A field: the class or component that declares it, its name and its type.
pub record DeclaredField : Type 0 where
  pub owner : Owner
  pub name : Name
  pub type : StaticType

-- The field of a member, where it is one.
abbrev pub field_at : Owner → Node → List DeclaredField
field_at o (FieldDecl at x t value) = record { owner = o; name = x; type = written_type t } ∷ []
field_at o _ = []

-- The fields among members.
abbrev pub fields_among : Owner → Node → List DeclaredField
fields_among o (Then m rest) = field_at o m ++ fields_among o rest
fields_among o _ = []

-- Those that a declaration declares.
abbrev pub fields_at : Node → List DeclaredField
fields_at (ClassDecl at c above members) = fields_among (InClass c) members
fields_at (ComponentDecl at c members) = fields_among (InComponent c) members
fields_at _ = []

-- Those of declarations, in order of the text.
abbrev pub fields_in : Node → List DeclaredField
fields_in (Then d rest) = fields_at d ++ fields_in rest
fields_in _ = []

-- Those of a text.
abbrev pub fields_of : Node → List DeclaredField
fields_of text = fields_in (declarations_of text)
