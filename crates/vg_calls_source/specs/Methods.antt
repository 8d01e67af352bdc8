-- The methods that a text declares, with the types of their parameters and of their results.
use Rattle.std.specs.Prelude.{◌≡◌, ℕ, List, [], ◌∷◌, ◌++◌, codes, Option, Some, None, slice_get}
use Rattle.vg_syntax.specs.Tree.{Node, Then, ClassDecl, ComponentDecl, MethodDecl}
use Rattle.vg_source.specs.Names.{Name}
use Rattle.vg_source.specs.Types.{StaticType}
use Rattle.vg_source.specs.Declared.{written_type, row_of}
use Rattle.vg_source.specs.Program.{declarations_of}

-- A method, by the name of the class or component that declares it and its own.
pub record MethodName : Type 0 where
  pub owner : Name
  pub name : Name

-- Its text: `C.m`.
abbrev pub method_text : MethodName → List ℕ
method_text m = m.owner ++ codes "." ++ m.name

-- A method with its types. Those of its parameters are a row.
pub record DeclaredMethod : Type 0 where
  pub method : MethodName
  pub params : StaticType
  pub result : StaticType

-- The method of a member, where it is one.
abbrev pub method_at : (owner : Name) → Node → List DeclaredMethod
method_at c (MethodDecl at x ps t body) = record { method = record { owner = c; name = x }; params = row_of ps; result = written_type t } ∷ []
method_at c _ = []

-- The methods among members.
abbrev pub methods_among : (owner : Name) → Node → List DeclaredMethod
methods_among c (Then m rest) = method_at c m ++ methods_among c rest
methods_among c _ = []

-- Those that a declaration declares.
abbrev pub methods_at : Node → List DeclaredMethod
methods_at (ClassDecl at c above members) = methods_among c members
methods_at (ComponentDecl at c members) = methods_among c members
methods_at _ = []

-- Those of declarations, in order of the text.
abbrev pub methods_in : Node → List DeclaredMethod
methods_in (Then d rest) = methods_at d ++ methods_in rest
methods_in _ = []

-- Those of a text.
abbrev pub methods_of : Node → List DeclaredMethod
methods_of text = methods_in (declarations_of text)

-- A text declares a method with these types of its parameters and this one of its result.
abbrev pub HasTypes : Node → MethodName → (params result : StaticType) → Type 0
HasTypes text m ps r = (i : ℕ) × (slice_get (methods_of text) i ≡ Some (record { method = m; params = ps; result = r }))

-- The method of this number, in order of the text; where there is none, one without names.
abbrev pub name_in : Option DeclaredMethod → MethodName
name_in (Some d) = d.method
name_in None = record { owner = []; name = [] }

abbrev pub method_numbered : Node → ℕ → MethodName
method_numbered text k = name_in (slice_get (methods_of text) k)
