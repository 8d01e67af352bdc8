-- Classes and components in order of the text.
use Rattle.std.specs.Prelude.{◌≡◌, ℕ, List, [], ◌∷◌, map, Option, Some, slice_get}
use Rattle.vg_syntax.specs.Tree.{Node, Then, ClassDecl, ComponentDecl}
use Rattle.vg_syntax.specs.Classes.{ClassParts, class_named}
use Rattle.vg_source.specs.Names.{Name}
use Rattle.vg_source.specs.Declared.{component_named}
use Rattle.vg_types_views.specs.ByText.{found}
use Rattle.vg_types_heads.specs.Heads.{HeadsView}

-- The classes with their names.
abbrev pub class_list : Node → List (Name × ClassParts)
class_list (Then (ClassDecl at c above members) rest) = (c, record { at = at; above = above; members = members }) ∷ class_list rest
class_list (Then d rest) = class_list rest
class_list _ = []

-- The members of the components, with the names of the components.
abbrev pub component_list : Node → List (Name × Node)
component_list (Then (ComponentDecl at c members) rest) = (c, members) ∷ component_list rest
component_list (Then d rest) = component_list rest
component_list _ = []

-- The number of a name is the place of what it names.
pub record Lists (ds : Node) (v : HeadsView) : Type 0 where
  pub class_at : (x : Name) (c : ℕ) → found x v.classes ≡ Some c
      → (p : ClassParts) × (class_named ds x ≡ Some p) × (slice_get (class_list ds) c ≡ Some (x, p))
  pub component_at : (x : Name) (k : ℕ) → found x v.components ≡ Some k
      → (ms : Node) × (component_named ds x ≡ Some ms) × (slice_get (component_list ds) k ≡ Some (x, ms))
  pub class_names : v.class_names ≡ map (λ e. e.0) (class_list ds)
  pub component_names : v.component_names ≡ map (λ e. e.0) (component_list ds)
  pub above : v.above ≡ map (λ e. e.1.above) (class_list ds)
