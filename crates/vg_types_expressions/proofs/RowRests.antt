-- Rows of nodes, from one on.
use Rattle.std.proofs.Common.{◌≡◌, ◌<◌, ◌≤◌, ℕ, zero, suc, ◌+◌, List, [], ◌∷◌, length, drop, get_or, refl, sym, ap, ◌∙◌, arith}
use Rattle.vg_syntax.specs.Tree.{Nothing, Then}
use Rattle.vg_tree.specs.declared.node.Node as held_node
use Rattle.vg_tree.specs.Held.{row_at, node_at}

-- the rest of a row begins with the node at hand
pub row_rest : (texts : List (List ℕ)) (nodes : List held_node.Node) (i : ℕ) (n : held_node.Node) → i < length nodes → n ≡ get_or nodes i n
    → row_at texts (drop i nodes) ≡ Then (node_at texts n) (row_at texts (drop (i + 1) nodes))
row_rest texts [] i n lt e = absurd (omega (arith, lt))
row_rest texts (m ∷ nodes) zero n lt e = ap (λ (k : held_node.Node). Then (node_at texts k) (row_at texts nodes)) (sym e)
row_rest texts (m ∷ nodes) (suc i) n lt e =
    let one : suc i + 1 ≡ suc (i + 1) = omega arith in
    row_rest texts nodes i n (omega (arith, lt)) e ∙ ap (λ j. Then (node_at texts n) (row_at texts (drop j (m ∷ nodes)))) (sym one)

-- some node is left
pub some_left : (texts : List (List ℕ)) (nodes : List held_node.Node) (i : ℕ) → i < length nodes
    → (n : held_node.Node) × (row_at texts (drop i nodes) ≡ Then (node_at texts n) (row_at texts (drop (i + 1) nodes)))
some_left texts [] i lt = absurd (omega (arith, lt))
some_left texts (m ∷ nodes) zero lt = (m, refl)
some_left texts (m ∷ nodes) (suc i) lt =
    let one : suc i + 1 ≡ suc (i + 1) = omega arith in
    let more = some_left texts nodes i (omega (arith, lt)) in
    (more.0, more.1 ∙ ap (λ j. Then (node_at texts more.0) (row_at texts (drop j (m ∷ nodes)))) (sym one))

pub none_left : (texts : List (List ℕ)) (nodes : List held_node.Node) (i : ℕ) → length nodes ≤ i → row_at texts (drop i nodes) ≡ Nothing
none_left texts [] zero h = refl
none_left texts [] (suc i) h = refl
none_left texts (m ∷ nodes) zero h = absurd (omega (arith, h))
none_left texts (m ∷ nodes) (suc i) h = none_left texts nodes i (omega (arith, h))

-- the last node of a row
pub last_left : (texts : List (List ℕ)) (nodes : List held_node.Node) (i : ℕ) (n : held_node.Node) → i + 1 ≡ length nodes → n ≡ get_or nodes i n
    → row_at texts (drop i nodes) ≡ Then (node_at texts n) Nothing
last_left texts nodes i n l e =
    row_rest texts nodes i n (omega (arith, l)) e ∙ ap (Then (node_at texts n)) (none_left texts nodes (i + 1) (omega (arith, l)))
