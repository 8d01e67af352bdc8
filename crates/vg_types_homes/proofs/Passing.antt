-- Past declarations.
use Rattle.std.proofs.Common.{◌≡◌, ℕ, zero, suc, ◌+◌, ◌<◌, false, List, [], ◌∷◌, length, get_or, refl, arith}
use Rattle.vg_syntax.specs.Tree.{Node}
use Rattle.vg_syntax.specs.Numbering.{count_nodes}
use Rattle.vg_tree.specs.declared.node.Node as held
use Rattle.vg_tree.specs.Held.{node_at, nodes_at, arms_at, row_at}
use Rattle.vg_types_homes.specs.Homes.{HomesView, with_declaration, is_home}

-- each node of a row is no larger than the row
pub small : (k : ℕ) (ns : List held.Node) → count_nodes (row_at [] ns) < k → (i : ℕ) (d : held.Node) → i < length ns
    → count_nodes (node_at [] (get_or ns i d)) < k
small k [] h i d l = absurd (omega (arith, l))
small k (n ∷ ns) h zero d l = omega (arith, h)
small k (n ∷ ns) h (suc i) d l = small k ns (omega (arith, h)) i d (omega (arith, l))

row_other : (texts : List (List ℕ)) (v : HomesView) {m : _} (k : held.Row_of-Node m) → v ≡ with_declaration (nodes_at texts k) v
row_other texts v held.end_of-Node = refl
row_other texts v (held.more_of-Node n rest) = refl

arms_other : (texts : List (List ℕ)) (v : HomesView) {m : _} (k : held.Row_of-Node m) → v ≡ with_declaration (arms_at texts k) v
arms_other texts v held.end_of-Node = refl
arms_other texts v (held.more_of-Node (held.Pair' p c q b) rest) = refl
arms_other texts v (held.more_of-Node _ rest) = arms_other texts v rest

-- what is no class and no component adds nothing
pub with_other : (texts : List (List ℕ)) (n : held.Node) (v : HomesView) → is_home n ≡ false → v ≡ with_declaration (node_at texts n) v
with_other texts (held.ClassDecl' place name above p ms) v f = cc
with_other texts (held.ComponentDecl' place name p ms) v f = cc
with_other texts (held.Row' shape all) v f = row_other texts v all
with_other texts (held.Arms' shape all) v f = arms_other texts v all
with_other texts _ v f = refl
