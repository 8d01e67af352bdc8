-- The declarations of a text and their map.
use Rattle.std.specs.Prelude.{◌≡◌, ℕ, true, List, [], Option, None}
use Rattle.std.specs.Option.{option_map}
use Rattle.vg_syntax.specs.Tree.{Spot, Node}
use Rattle.vg_syntax.specs.Numbering.{numbered, with_id}
use Rattle.vg_syntax.specs.Reads.{spot}
use Rattle.vg_tree.specs.declared.node.Node as held
use Rattle.vg_tree.specs.declared.node.Node.{Node as HeldNode}
use Rattle.vg_tree.specs.Held.{text_at, row_at}
use Rattle.vg_source.specs.Names.{Name}
use Rattle.vg_rules.specs.Names.{names_breach}
use Rattle.vg_types_names.specs.declared.declaration.Declaration.{Declaration}
use Rattle.vg_types_names.specs.Declarations.{no_counts, entries, are_declarations}
use Rattle.vg_types_classes.specs.declared.class.FoundClass.{FoundClass}

-- The declarations of a text from their nodes: the first has the number 1.
abbrev pub declarations_in : List (List ℕ) → List HeldNode → Node
declarations_in texts nodes = numbered 1 (row_at texts nodes)

-- The map of the declarations of these nodes, each of which is one, and whose names differ.
pub record IsMapAt (texts : List (List ℕ)) (nodes : List HeldNode) (m : List (Name × Declaration)) : Type 0 where
  pub map : m ≡ entries no_counts (declarations_in texts nodes)
  pub declared : are_declarations (declarations_in texts nodes) ≡ true
  pub differ : names_breach [] (declarations_in texts nodes) ≡ None

-- The name of the class above a class that was found.
abbrev pub class_view : List (List ℕ) → FoundClass → Option Name
class_view texts k = option_map (text_at texts) k.above

-- Where a text stands.
abbrev pub text_spot : HeldNode → Spot
text_spot (held.Text' place p declarations) = with_id 0 (spot place)
text_spot _ = with_id 0 (spot (record { line = 1; col = 1 }))
