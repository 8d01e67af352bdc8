-- Rows as lists.
use Rattle.std.proofs.Common.{◌≡◌, ℕ, ◌==◌, length, List, [], ◌∷◌, Vec, Global, refl, sym, ap, ◌∙◌}
use Rattle.std.proofs.Math.Dec.{eqb-suc-zero}
use Rattle.vg_tree.specs.declared.node.Node as held
use Rattle.vg_tree.specs.declared.node.Node.TheViews as views
use Rattle.vg_syntax.specs.Tree.{Then}
use Rattle.vg_tree.specs.Held.{node_at, nodes_at, row_at}
use Rattle.vg_tree.specs.Nothing.{is_nothing}

nodes_in_order : (texts : List (List ℕ)) (n : _) (k : held.Row_of-Node n) → nodes_at texts k ≡ row_at texts (held.items-the_row-Node n k)
nodes_in_order texts _ held.end_of-Node = refl
nodes_in_order texts _ (held.more_of-Node e rest) = ap (Then (node_at texts e)) (nodes_in_order texts _ rest)

-- the node of a row
pub node_of_row : (texts : List (List ℕ)) (v : Vec held.Node Global) → node_at texts (views.Row v) ≡ row_at texts v.items
node_of_row texts v = nodes_in_order texts _ (held.TheBlock.hidden-the_row-Node-0 v) ∙ ap (row_at texts) (held.items_hidden-the_row-Node-0 v)

-- a row stands for nothing where it is empty
pub empty_is_nothing : (texts : List (List ℕ)) (ns : List held.Node) (n : ℕ) → n ≡ length ns → (n == 0) ≡ is_nothing (row_at texts ns)
empty_is_nothing texts [] n e = rw e refl
empty_is_nothing texts (m ∷ ns) n e = ap (λ k. k == 0) e ∙ eqb-suc-zero (length ns)

-- a row and the slice of its nodes
pub row_same : (n : held.Node) (v : Vec held.Node Global) (s : List held.Node) → n ≡ views.Row v → s ≡ v.items
    → (texts : List (List ℕ)) → node_at texts n ≡ row_at texts s
row_same n v s e f texts = ap (node_at texts) e ∙ node_of_row texts v ∙ sym (ap (row_at texts) f)
