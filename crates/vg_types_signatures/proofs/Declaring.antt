-- How far declarations are asked.
use Rattle.std.proofs.Common.{◌≡◌, ℕ, ◌+◌, List, [], ◌∷◌, Some, None, refl, sym, ap, ◌∙◌, arith}
use Rattle.vg_syntax.specs.Tree.{Node, Then, ClassDecl, ComponentDecl, DeviceDecl}
use Rattle.vg_syntax.specs.Numbering.{count_nodes, numbered}
use Rattle.vg_tree.specs.declared.node.Node as held
use Rattle.vg_tree.specs.Held.{node_at, row_at}
use Rattle.vg_rules.specs.Breach.{Breach, ◌or◌}
use Rattle.vg_rules.specs.Signatures.{signatures_breach}
use Rattle.vg_types_signatures.specs.Asked.{one_breach}

row_one : (ds : Node) (d rest : Node) → signatures_breach ds (Then d rest) ≡ (one_breach ds d or signatures_breach ds rest)
row_one ds (ClassDecl at c above members) rest = refl
row_one ds (ComponentDecl at c members) rest = refl
row_one ds (DeviceDecl at d registers) rest = refl
row_one ds _ rest = refl

-- with the rest, all declarations are asked
pub record Declaring (ds : Node) (texts : List (List ℕ)) (all : List held.Node) (next : ℕ) (rest : List held.Node) : Type 0 where
  pub breach : signatures_breach ds (numbered 1 (row_at texts all)) ≡ signatures_breach ds (numbered next (row_at texts rest))
  pub count : next + count_nodes (row_at [] rest) ≡ 1 + count_nodes (row_at [] all)

pub declaring_starts : (ds : Node) (texts : List (List ℕ)) (all : List held.Node) → Declaring ds texts all 1 all
declaring_starts ds texts all = record { breach = refl; count = refl }

abbrev behind : List (List ℕ) → ℕ → held.Node → List held.Node → Node
behind texts next d rest = numbered (next + count_nodes (node_at texts d)) (row_at texts rest)

pub declaration_broken : (ds : Node) (texts : List (List ℕ)) (all : List held.Node) (next : ℕ) (d : held.Node) (rest : List held.Node) (b : Breach)
    → Declaring ds texts all next (d ∷ rest) → one_breach ds (numbered next (node_at texts d)) ≡ Some b
    → signatures_breach ds (numbered 1 (row_at texts all)) ≡ Some b
declaration_broken ds texts all next d rest b p e =
    p.breach ∙ row_one ds (numbered next (node_at texts d)) (behind texts next d rest) ∙ ap (λ o. o or signatures_breach ds (behind texts next d rest)) e

pub declaration_kept : (ds : Node) (texts : List (List ℕ)) (all : List held.Node) (next after : ℕ) (d : held.Node) (rest : List held.Node)
    → Declaring ds texts all next (d ∷ rest) → one_breach ds (numbered next (node_at texts d)) ≡ None
    → ((ts : List (List ℕ)) → after ≡ next + count_nodes (node_at ts d)) → Declaring ds texts all after rest
declaration_kept ds texts all next after d rest p e n =
    let c = p.count in
    let m = n [] in
    record {
      breach = p.breach ∙ row_one ds (numbered next (node_at texts d)) (behind texts next d rest)
          ∙ ap (λ o. o or signatures_breach ds (behind texts next d rest)) e
          ∙ ap (λ i. signatures_breach ds (numbered i (row_at texts rest))) (sym (n texts));
      count = omega (arith, c, m);
    }
