-- Nodes that are no names and no Member suffixes.
use Rattle.std.proofs.Common.{◌≡◌, ℕ, false, List, refl}
use Rattle.vg_base.specs.declared.place.Place.{Place}
use Rattle.vg_syntax.specs.Tree.{Node, Then}
use Rattle.vg_syntax.specs.Numbering.{numbered}
use Rattle.vg_tree.specs.declared.node.Node as held
use Rattle.vg_tree.specs.Held.{node_at, nodes_at, arms_at}
use Rattle.vg_types_expressions.specs.Nodes.{begins_with_member, is_name}

row_no_name : (texts : List (List ℕ)) (i : ℕ) (m : _) (all : held.Row_of-Node m) → is_name (numbered i (nodes_at texts all)) ≡ false
row_no_name texts i _ held.end_of-Node = refl
row_no_name texts i _ (held.more_of-Node n rest) = refl

arms_no_name : (texts : List (List ℕ)) (i : ℕ) (m : _) (all : held.Row_of-Node m) → is_name (numbered i (arms_at texts all)) ≡ false
arms_no_name texts i _ held.end_of-Node = refl
arms_no_name texts i _ (held.more_of-Node (held.Pair' p c q b) rest) = refl
arms_no_name texts i _ (held.more_of-Node n rest) = arms_no_name texts i _ rest

pub no_name : (n : held.Node) → ((p : Place) (x : ℕ) → n ≡ held.Name p x → ⊥) → (texts : List (List ℕ)) (i : ℕ) → is_name (numbered i (node_at texts n)) ≡ false
no_name (held.Name p x) h texts i = absurd (h p x refl)
no_name (held.Row' shape all) h texts i = row_no_name texts i _ all
no_name (held.Arms' shape all) h texts i = arms_no_name texts i _ all
no_name n h texts i = refl

row_no_member : (texts : List (List ℕ)) (i : ℕ) (m : _) (all : held.Row_of-Node m) (rest : Node)
    → begins_with_member (Then (numbered i (nodes_at texts all)) rest) ≡ false
row_no_member texts i _ held.end_of-Node rest = refl
row_no_member texts i _ (held.more_of-Node n more) rest = refl

arms_no_member : (texts : List (List ℕ)) (i : ℕ) (m : _) (all : held.Row_of-Node m) (rest : Node)
    → begins_with_member (Then (numbered i (arms_at texts all)) rest) ≡ false
arms_no_member texts i _ held.end_of-Node rest = refl
arms_no_member texts i _ (held.more_of-Node (held.Pair' p c q b) more) rest = refl
arms_no_member texts i _ (held.more_of-Node n more) rest = arms_no_member texts i _ more rest

pub no_member : (n : held.Node) → ((p : Place) (x : ℕ) → n ≡ held.Member p x → ⊥) → (texts : List (List ℕ)) (i : ℕ) (rest : Node)
    → begins_with_member (Then (numbered i (node_at texts n)) rest) ≡ false
no_member (held.Member p x) h texts i rest = absurd (h p x refl)
no_member (held.Row' shape all) h texts i rest = row_no_member texts i _ all rest
no_member (held.Arms' shape all) h texts i rest = arms_no_member texts i _ all rest
no_member n h texts i rest = refl
