-- What a node is, by its children.
use Rattle.std.proofs.Common.{◌≡◌, ℕ, List, true, refl}
use Rattle.vg_syntax.specs.Outline.{Inner, outline}
use Rattle.vg_tree.specs.declared.node.Node as held
use Rattle.vg_tree.specs.Held.{node_at}
use Rattle.vg_tree_walks.specs.Children.{children_of, kids_at, has_number, weight_of}

pub outline_of : (texts : List (List ℕ)) (n : held.Node) → has_number n ≡ true
    → outline (node_at texts n) ≡ Inner 0 (weight_of n) (outline (kids_at texts (children_of n)))
outline_of texts held.Nothing e = absurd cc
outline_of texts (held.Row' shape all) e = absurd cc
outline_of texts (held.Arms' shape all) e = absurd cc
outline_of texts (held.Pair' p c q b) e = absurd cc
outline_of texts _ e = refl
