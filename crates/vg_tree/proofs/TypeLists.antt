-- Rows of types as lists.
use Rattle.std.proofs.Common.{◌≡◌, ℕ, List, Vec, Global, refl, ap, ◌∙◌}
use Rattle.vg_tree.specs.declared.type_tree.TypeTree as held
use Rattle.vg_tree.specs.declared.type_tree.TypeTree.TheViews as views
use Rattle.vg_syntax.specs.Tree.{MoreTypes}
use Rattle.vg_tree.specs.Held.{type_at, types_at, type_row}

types_in_order : (texts : List (List ℕ)) (n : _) (k : held.Row_of-TypeTree n) → types_at texts k ≡ type_row texts (held.items-the_row-TypeTree n k)
types_in_order texts _ held.end_of-TypeTree = refl
types_in_order texts _ (held.more_of-TypeTree t rest) = ap (MoreTypes (type_at texts t)) (types_in_order texts _ rest)

-- the type of a row
pub type_of_row : (texts : List (List ℕ)) (v : Vec held.TypeTree Global) → type_at texts (views.Row v) ≡ type_row texts v.items
type_of_row texts v = types_in_order texts _ (held.TheBlock.hidden-the_row-TypeTree-0 v) ∙ ap (type_row texts) (held.items_hidden-the_row-TypeTree-0 v)
