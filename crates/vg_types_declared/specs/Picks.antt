-- Mirrors: the names of one sort of declarations. No clause of a public function cites them.
use Rattle.std.specs.Prelude.{ℕ, suc, Bool, false, ◌||◌, List, [], ◌∷◌, ◌++◌, Option, Some, None, bytes_eq}
use Rattle.vg_syntax.specs.Tree.{Node, Then, ClassDecl, ComponentDecl, DeviceDecl}
use Rattle.vg_source.specs.Names.{Name}
use Rattle.vg_types_views.specs.ByText.{added}

-- the name of a class, of a component, of a device
abbrev pub class_pick : Node → Option Name
class_pick (ClassDecl at c above members) = Some c
class_pick _ = None

abbrev pub component_pick : Node → Option Name
component_pick (ComponentDecl at c members) = Some c
component_pick _ = None

abbrev pub device_pick : Node → Option Name
device_pick (DeviceDecl at d registers) = Some d
device_pick _ = None

-- one name more, where there is one
abbrev pub next_map : Option Name → List (Name × ℕ) → ℕ → List (Name × ℕ)
next_map (Some c) m k = added c k m
next_map None m k = m

abbrev pub next_count : Option Name → ℕ → ℕ
next_count (Some c) k = suc k
next_count None k = k

abbrev pub name_row : Option Name → List Name
name_row (Some c) = c ∷ []
name_row None = []

abbrev pub is_name : Option Name → Name → Bool
is_name (Some c) x = bytes_eq c x
is_name None x = false

module _ (pick : Node → Option Name) where
  -- the map of the names of a sort, behind k of them
  abbrev pub map_on : Node → List (Name × ℕ) → ℕ → List (Name × ℕ)
  map_on (Then d rest) m k = map_on rest (next_map (pick d) m k) (next_count (pick d) k)
  map_on _ m k = m

  -- all of them in order
  abbrev pub names_on : Node → List Name → List Name
  names_on (Then d rest) xs = names_on rest (xs ++ name_row (pick d))
  names_on _ xs = xs

  -- a declaration of the sort has this name
  abbrev pub is_picked : Node → Name → Bool
  is_picked (Then d rest) x = is_name (pick d) x || is_picked rest x
  is_picked _ x = false
