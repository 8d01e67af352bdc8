-- Rows of pairs as lists.
use Rattle.std.proofs.Common.{◌≡◌, ℕ, List, Vec, Global, false, refl, sym, ap, ◌∙◌}
use Rattle.vg_tree.specs.declared.node.Node as held
use Rattle.vg_tree.specs.declared.node.Node.TheViews as views
use Rattle.vg_syntax.specs.Tree.{Node}
use Rattle.vg_tree.specs.Held.{node_at, arms_at, arm_at, arm_row}
use Rattle.vg_tree.specs.Nothing.{is_pair}

arms_in_order : (texts : List (List ℕ)) (n : _) (k : held.Row_of-Node n) → arms_at texts k ≡ arm_row texts (held.items-the_row-Node n k)
arms_in_order texts _ held.end_of-Node = refl
arms_in_order texts _ (held.more_of-Node e rest) = ap (arm_at texts e) (arms_in_order texts _ rest)

-- the node of a row of pairs
pub node_of_arms : (texts : List (List ℕ)) (v : Vec held.Node Global) → node_at texts (views.Arms v) ≡ arm_row texts v.items
node_of_arms texts v = arms_in_order texts _ (held.TheBlock.hidden-the_row-Node-0 v) ∙ ap (arm_row texts) (held.items_hidden-the_row-Node-0 v)

-- a row of pairs and the slice of its nodes
pub arms_same : (n : held.Node) (v : Vec held.Node Global) (s : List held.Node) → n ≡ views.Arms v → s ≡ v.items
    → (texts : List (List ℕ)) → node_at texts n ≡ arm_row texts s
arms_same n v s e f texts = ap (node_at texts) e ∙ node_of_arms texts v ∙ sym (ap (arm_row texts) f)

-- what is no pair adds nothing
pub no_arm : (texts : List (List ℕ)) (n : held.Node) (rest : Node) → is_pair n ≡ false → arm_at texts n rest ≡ rest
no_arm texts (held.Pair' p c q b) rest h = cc
no_arm texts _ rest h = refl
