-- The types of the parameters and locals of methods.
use Rattle.std.specs.Prelude.{List, [], ◌∷◌, ◌++◌, reverse}
use Rattle.std.specs.List.{AllByRecursion}
use Rattle.vg_syntax.specs.Tree.{Node, Then, ClassDecl, ComponentDecl, MethodDecl}
use Rattle.vg_source.specs.Types.{StaticType}
use Rattle.vg_source.specs.Resolved.{Owner, InClass, InComponent, Fresh, resolved}
use Rattle.vg_source.specs.Program.{declarations_of, scope_of}
use Rattle.vg_source_ranges.specs.Ranges.{IsSmall, IsWide}

-- Values of the type have bits, and bit strings have at most 32.
abbrev pub IsSized : StaticType → Type 0
IsSized t = IsSmall t × IsWide t

abbrev pub AreSized : List StaticType → Type 0
AreSized ts = AllByRecursion IsSized ts

-- The types of the parameters and locals of a method, by their numbers.
abbrev pub locals_at : Node → Owner → Node → List (List StaticType)
locals_at ds o (MethodDecl at x ps t body) = reverse (resolved ds o body Fresh (scope_of ps)).scope.declared ∷ []
locals_at ds o _ = []

-- Those of the methods among members.
abbrev pub locals_among : Node → Owner → Node → List (List StaticType)
locals_among ds o (Then m rest) = locals_at ds o m ++ locals_among ds o rest
locals_among ds o _ = []

-- Those of the methods of declarations, in order of the text.
abbrev pub locals_in : Node → Node → List (List StaticType)
locals_in ds (Then (ClassDecl at c above members) rest) = locals_among ds (InClass c) members ++ locals_in ds rest
locals_in ds (Then (ComponentDecl at c members) rest) = locals_among ds (InComponent c) members ++ locals_in ds rest
locals_in ds (Then d rest) = locals_in ds rest
locals_in ds _ = []

-- Those of the methods of a text, each by its number.
abbrev pub locals_of : Node → List (List StaticType)
locals_of text = locals_in (declarations_of text) (declarations_of text)
