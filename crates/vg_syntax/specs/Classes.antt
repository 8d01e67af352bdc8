-- The classes among the declarations of a text, by name. Where two have one name, the first is meant.
use Rattle.std.specs.Prelude.{ℕ, List, Option, Some, None, bytes_eq, if◌then◌else◌}
use Rattle.vg_syntax.specs.Tree.{Spot, Node, Then, ClassDecl}

-- a class: where its declaration stands, the name of the class above it, if it has one, and its members
pub record ClassParts : Type 0 where
  pub at : Spot
  pub above : Option (List ℕ)
  pub members : Node

-- the class of this name in a row of declarations
abbrev pub class_named : (declarations : Node) → (name : List ℕ) → Option ClassParts
class_named (Then (ClassDecl at other above members) rest) name =
    if bytes_eq other name then Some (record { at = at; above = above; members = members }) else class_named rest name
class_named (Then other rest) name = class_named rest name
class_named _ name = None
