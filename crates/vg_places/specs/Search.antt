-- Mirrors: how the code goes through the places. No clause of a public function cites them.
use Rattle.std.specs.Prelude.{ℕ, Bool, true, false, ◌-◌, ◌==◌, List, [], ◌∷◌, ◌++◌, Option, Some, None, if◌then◌else◌}
use Rattle.vg_base.specs.declared.place.Place.{Place}
use Rattle.vg_syntax.specs.Tree.{Spot, Node}
use Rattle.vg_tree.specs.declared.node.Node as held
use Rattle.vg_syntax.specs.Outline.{outline}
use Rattle.vg_tree.specs.Held.{node_at}
use Rattle.vg_tree_walks.specs.Walks.{bulk}
use Rattle.vg_places.specs.declared.places.Search.{Search}
use Rattle.vg_places.specs.Places.{spots}

-- behind one more node: where none was found, it is the one, or one less is to come before it
abbrev pub after_one : Search → Option Place → Place → Search
after_one s (Some found) place = s
after_one s None place = if s.before == 0 then record { before = 0; found = Some place } else record { before = s.before - 1; found = None }

abbrev pub after : Search → List Spot → Search
after s [] = s
after s (at ∷ rest) = after (after_one s s.found at.place) rest

-- the spots of a child, where there is one
abbrev pub kid_spots : List (List ℕ) → Option held.Node → List Spot
kid_spots texts None = []
kid_spots texts (Some n) = spots (node_at texts n)

-- how much there is to walk below a child, where there is one
abbrev pub kid_bulk : Option held.Node → ℕ
kid_bulk None = 0
kid_bulk (Some n) = bulk (outline (node_at [] n))

-- a row of nodes or of pairs
abbrev pub is_row_node : held.Node → Bool
is_row_node (held.Row' shape all) = true
is_row_node (held.Arms' shape all) = true
is_row_node _ = false
