-- Constructors among members.
use Rattle.std.proofs.Common.{◌≡◌, ℕ, ◌+◌, Bool, true, false, List, [], ◌∷◌, if◌then◌else◌, refl, sym, ap, ◌∙◌}
use Rattle.vg_syntax.specs.Tree.{Node, Then}
use Rattle.vg_syntax.specs.Numbering.{count_nodes, numbered}
use Rattle.vg_tree.specs.declared.node.Node as held
use Rattle.vg_tree.specs.Held.{node_at, nodes_at, arms_at, row_at}
use Rattle.vg_rules.specs.Inherited.{has_constructor}
use Rattle.vg_types_inherited.specs.Asked.{is_constructor}

row_made : (texts : List (List ℕ)) (i : ℕ) {m : _} (all : held.Row_of-Node m) (rest : Node)
    → has_constructor (Then (numbered i (nodes_at texts all)) rest) ≡ has_constructor rest
row_made texts i held.end_of-Node rest = refl
row_made texts i (held.more_of-Node n ns) rest = refl

arms_made : (texts : List (List ℕ)) (i : ℕ) {m : _} (all : held.Row_of-Node m) (rest : Node)
    → has_constructor (Then (numbered i (arms_at texts all)) rest) ≡ has_constructor rest
arms_made texts i held.end_of-Node rest = refl
arms_made texts i (held.more_of-Node (held.Pair' p c q b) ns) rest = refl
arms_made texts i (held.more_of-Node _ ns) rest = arms_made texts i ns rest

one_made : (texts : List (List ℕ)) (i : ℕ) (n : held.Node) (rest : Node)
    → has_constructor (Then (numbered i (node_at texts n)) rest) ≡ (if is_constructor n then true else has_constructor rest)
one_made texts i (held.ConstructorDecl' place params calls_super p arguments q body) rest = refl
one_made texts i (held.Row' shape all) rest = row_made texts i all rest
one_made texts i (held.Arms' shape all) rest = arms_made texts i all rest
one_made texts i _ rest = refl

-- one of these nodes is a constructor
abbrev pub any_made : List held.Node → Bool
any_made [] = false
any_made (n ∷ ns) = if is_constructor n then true else any_made ns

pub made_among : (texts : List (List ℕ)) (i : ℕ) (ns : List held.Node) → any_made ns ≡ has_constructor (numbered i (row_at texts ns))
made_among texts i [] = refl
made_among texts i (n ∷ ns) =
    ap (λ b. if is_constructor n then true else b) (made_among texts (i + count_nodes (node_at texts n)) ns)
    ∙ sym (one_made texts i n (numbered (i + count_nodes (node_at texts n)) (row_at texts ns)))
