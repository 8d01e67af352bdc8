-- How far the classes of a text are asked.
use Rattle.std.proofs.Common.{◌≡◌, ℕ, suc, ◌+◌, Bool, true, false, List, [], ◌∷◌, length, Option, Some, None, if◌then◌else◌, refl, sym, ap, ◌∙◌, arith}
use Rattle.vg_syntax.specs.Tree.{Spot, Node, ClassDecl, Then}
use Rattle.vg_syntax.specs.Numbering.{count_nodes, numbered, with_id}
use Rattle.vg_tree.specs.declared.node.Node as held
use Rattle.vg_tree.specs.Held.{node_at, nodes_at, arms_at, row_at}
use Rattle.vg_source.specs.Declared.{length_of}
use Rattle.vg_rules.specs.Breach.{Breach, asks, ◌or◌}
use Rattle.vg_rules.specs.Names.{extends_keeps, classes_breach}
use Rattle.vg_types_classes.specs.Classes.{declarations_in}
use Rattle.vg_types_classes.specs.Walk.{class_keeps, is_class}

-- there are as many declarations as nodes
pub as_many : (texts : List (List ℕ)) (i : ℕ) (nodes : List held.Node) → length_of (numbered i (row_at texts nodes)) ≡ length nodes
as_many texts i [] = refl
as_many texts i (n ∷ nodes) = ap suc (as_many texts (i + count_nodes (node_at texts n)) nodes)

asked : (b : Bool) (at : Spot) (i : ℕ) (rest : Option Breach)
    → asks b 5 (with_id i at) or rest ≡ (if b then rest else Some (record { rule = 5; node = i }))
asked true at i rest = refl
asked false at i rest = refl

breach_one : (ds : Node) (i : ℕ) (d rest : Node)
    → classes_breach ds (Then (numbered i d) rest) ≡ (if class_keeps ds d then classes_breach ds rest else Some (record { rule = 5; node = i }))
breach_one ds i (ClassDecl at c above members) rest = asked (extends_keeps ds c above) at i (classes_breach ds rest)
breach_one ds i _ rest = refl

-- ---- what is no class keeps the rule

row_keeps : (ds : Node) (texts : List (List ℕ)) {m : _} (all : held.Row_of-Node m) → true ≡ class_keeps ds (nodes_at texts all)
row_keeps ds texts held.end_of-Node = refl
row_keeps ds texts (held.more_of-Node n rest) = refl

arms_keep : (ds : Node) (texts : List (List ℕ)) {m : _} (all : held.Row_of-Node m) → true ≡ class_keeps ds (arms_at texts all)
arms_keep ds texts held.end_of-Node = refl
arms_keep ds texts (held.more_of-Node (held.Pair' p c q b) rest) = refl
arms_keep ds texts (held.more_of-Node _ rest) = arms_keep ds texts rest

pub other_keeps : (ds : Node) (texts : List (List ℕ)) (n : held.Node) → is_class n ≡ false → true ≡ class_keeps ds (node_at texts n)
other_keeps ds texts (held.ClassDecl' place name above p members) h = cc
other_keeps ds texts (held.Row' shape all) h = row_keeps ds texts all
other_keeps ds texts (held.Arms' shape all) h = arms_keep ds texts all
other_keeps ds texts _ h = refl

-- ---- all declarations

-- with the rest, all are asked
pub record Asking (texts : List (List ℕ)) (all : List held.Node) (next : ℕ) (rest : List held.Node) : Type 0 where
  pub breach : classes_breach (declarations_in texts all) (declarations_in texts all)
      ≡ classes_breach (declarations_in texts all) (numbered next (row_at texts rest))
  pub count : next + count_nodes (row_at [] rest) ≡ 1 + count_nodes (row_at [] all)

pub asking_starts : (texts : List (List ℕ)) (all : List held.Node) → Asking texts all 1 all
asking_starts texts all = record { breach = refl; count = refl }

pub asking_ends : (texts : List (List ℕ)) (all : List held.Node) (next : ℕ) → Asking texts all next []
    → classes_breach (declarations_in texts all) (declarations_in texts all) ≡ None
asking_ends texts all next a = a.breach

pub asking_stops : (texts : List (List ℕ)) (all : List held.Node) (next : ℕ) (d : held.Node) (rest : List held.Node) → Asking texts all next (d ∷ rest)
    → class_keeps (declarations_in texts all) (node_at texts d) ≡ false
    → classes_breach (declarations_in texts all) (declarations_in texts all) ≡ Some (record { rule = 5; node = next })
asking_stops texts all next d rest a e =
    a.breach ∙ breach_one (declarations_in texts all) next (node_at texts d) (numbered (next + count_nodes (node_at texts d)) (row_at texts rest))
    ∙ ap (λ b. if b then classes_breach (declarations_in texts all) (numbered (next + count_nodes (node_at texts d)) (row_at texts rest))
    else Some (record { rule = 5; node = next })) e

pub asking_on : (texts : List (List ℕ)) (all : List held.Node) (next after : ℕ) (d : held.Node) (rest : List held.Node) → Asking texts all next (d ∷ rest)
    → class_keeps (declarations_in texts all) (node_at texts d) ≡ true → ((ts : List (List ℕ)) → after ≡ next + count_nodes (node_at ts d))
    → Asking texts all after rest
asking_on texts all next after d rest a e n =
    let c = a.count in
    let m = n [] in
    record {
      breach = a.breach ∙ breach_one (declarations_in texts all) next (node_at texts d) (numbered (next + count_nodes (node_at texts d)) (row_at texts rest))
          ∙ ap (λ b. if b then classes_breach (declarations_in texts all) (numbered (next + count_nodes (node_at texts d)) (row_at texts rest))
          else Some (record { rule = 5; node = next })) e
          ∙ ap (λ i. classes_breach (declarations_in texts all) (numbered i (row_at texts rest))) (sym (n texts));
      count = omega (arith, c, m);
    }
