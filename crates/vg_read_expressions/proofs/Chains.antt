-- Rows that are empty, and rows that are not.
use Rattle.std.proofs.Common.{◌≡◌, ℕ, zero, suc, List, [], ◌∷◌, reverse, length, false, ◌==◌, arith, refl, sym, ap, ◌∙◌}
use Rattle.std.proofs.lemmas.List.{reverse-reverse}
use Rattle.vg_tree.specs.declared.node.Node.{Node as HeldNode}
use Rattle.vg_syntax.specs.Tree.{Node, Then, Chain, Postfix}
use Rattle.vg_syntax.specs.Made.{Tree, Value, node_in}
use Rattle.vg_syntax.specs.Reads.{spot, value, chained, suffixed}
use Rattle.vg_tree.specs.Held.{node_at, row_at}
use Rattle.vg_tree.specs.HeldMade.{row_back}

pub not_zero : (n : ℕ) → (n == 0) ≡ false → n ≡ 0 → ⊥
not_zero zero e h = cc
not_zero (suc n) e h = omega arith

-- a row that is not empty begins with a node
begins : (texts : List (List ℕ)) (ns : List HeldNode) → (ns ≡ [] → ⊥) → (x : Node) × (y : Node) × (row_at texts ns ≡ Then x y)
begins texts [] h = absurd (h refl)
begins texts (n ∷ ns) h = (node_at texts n, row_at texts ns, refl)

no_nodes : (ns : List HeldNode) → (length ns ≡ 0 → ⊥) → reverse ns ≡ [] → ⊥
no_nodes ns h e = h (ap length (sym (reverse-reverse ns) ∙ ap reverse e))

chain_of : (a : Value) (row x y : Node) → row ≡ Then x y → value a.place (Tree (Chain (spot a.place) (node_in a.made) row)) ≡ chained a row
chain_of a row x y e = rw e refl

-- an operand with parts behind it is a chain
pub chained_more : (texts : List (List ℕ)) (a : Value) (ns : List HeldNode) (first parts : Node) → (length ns ≡ 0 → ⊥) → first ≡ node_in a.made
    → parts ≡ row_back texts ns → value a.place (Tree (Chain (spot a.place) first parts)) ≡ chained a (row_back texts ns)
chained_more texts a ns first parts h e f =
    let b = begins texts (reverse ns) (no_nodes ns h) in
    rw (e, f) (chain_of a (row_back texts ns) b.0 b.1 b.2)

postfix_of : (a : Value) (row x y : Node) → row ≡ Then x y → value a.place (Tree (Postfix (spot a.place) (node_in a.made) row)) ≡ suffixed a row
postfix_of a row x y e = rw e refl

-- an operand with suffixes behind it is a postfix expression
pub suffixed_more : (texts : List (List ℕ)) (a : Value) (ns : List HeldNode) (first suffixes : Node) → (length ns ≡ 0 → ⊥) → first ≡ node_in a.made
    → suffixes ≡ row_back texts ns → value a.place (Tree (Postfix (spot a.place) first suffixes)) ≡ suffixed a (row_back texts ns)
suffixed_more texts a ns first suffixes h e f =
    let b = begins texts (reverse ns) (no_nodes ns h) in
    rw (e, f) (postfix_of a (row_back texts ns) b.0 b.1 b.2)
