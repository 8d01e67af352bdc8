-- How far members and declarations are asked.
-- One member and one declaration is taken from a row (`member_one`, `row_one`). The records say that the rest, from the node that comes next, breaks
-- what all break; what keeps the rules leads to them again.
use Rattle.std.proofs.Common.{◌≡◌, ℕ, ◌+◌, Bool, true, false, List, [], ◌∷◌, Option, Some, None, if◌then◌else◌, refl, sym, ap, ◌∙◌, arith}
use Rattle.vg_syntax.specs.Tree.{Spot, Node, Then, ClassDecl, FieldDecl, MethodDecl}
use Rattle.vg_syntax.specs.Numbering.{count_nodes, numbered, with_id}
use Rattle.vg_tree.specs.declared.node.Node as held
use Rattle.vg_tree.specs.Held.{node_at, row_at}
use Rattle.vg_source.specs.Names.{Name}
use Rattle.vg_source.specs.Declared.{written_type, row_of, class_member}
use Rattle.vg_rules.specs.Breach.{Breach, asks, ◌or◌}
use Rattle.vg_rules.specs.Inherited.{is_free, is_no_field, overrides, overriding_breach, default_keeps, inherited_breach}
use Rattle.vg_types_inherited.specs.Asked.{member_rule, default_breach, one_breach}

-- ---- members

-- the breach of a rule, where one is broken
abbrev on : Option ℕ → ℕ → Option Breach → Option Breach
on None i rest = rest
on (Some r) i rest = Some (record { rule = r; node = i })

free_asked : (b : Bool) (at : Spot) (i : ℕ) (rest : Option Breach) → asks b 6 (with_id i at) or rest ≡ on (if b then None else Some 6) i rest
free_asked true at i rest = refl
free_asked false at i rest = refl

types_asked : (a b : Bool) (at : Spot) (i : ℕ) (rest : Option Breach)
    → asks a 6 (with_id i at) or asks b 7 (with_id i at) or rest ≡ on (if a then (if b then None else Some 7) else Some 6) i rest
types_asked true true at i rest = refl
types_asked true false at i rest = refl
types_asked false b at i rest = refl

member_one : (ds : Node) (above : Name) (i : ℕ) (m rest : Node)
    → overriding_breach ds above (Then (numbered i m) rest) ≡ on (member_rule ds above m) i (overriding_breach ds above rest)
member_one ds above i (FieldDecl at x t e) rest = free_asked (is_free (class_member ds above x)) at i (overriding_breach ds above rest)
member_one ds above i (MethodDecl at x ps t body) rest =
    types_asked (is_no_field (class_member ds above x)) (overrides (class_member ds above x) (row_of ps) (written_type t)) at i (overriding_breach ds above
    rest)
member_one ds above i _ rest = refl

abbrev behind : List (List ℕ) → ℕ → held.Node → List held.Node → Node
behind texts next d rest = numbered (next + count_nodes (node_at texts d)) (row_at texts rest)

-- with the rest, all members are asked
pub record Overriding (ds : Node) (above : Name) (texts : List (List ℕ)) (all : List held.Node) (first next : ℕ) (rest : List held.Node) : Type 0 where
  pub breach : overriding_breach ds above (numbered first (row_at texts all)) ≡ overriding_breach ds above (numbered next (row_at texts rest))
  pub count : next + count_nodes (row_at [] rest) ≡ first + count_nodes (row_at [] all)

pub overriding_starts : (ds : Node) (above : Name) (texts : List (List ℕ)) (all : List held.Node) (first : ℕ)
    → Overriding ds above texts all first first all
overriding_starts ds above texts all first = record { breach = refl; count = refl }

pub member_broken : (ds : Node) (above : Name) (texts : List (List ℕ)) (all : List held.Node) (first next : ℕ) (m : held.Node) (rest : List held.Node) (r : ℕ)
    → Overriding ds above texts all first next (m ∷ rest) → Some r ≡ member_rule ds above (node_at texts m)
    → overriding_breach ds above (numbered first (row_at texts all)) ≡ Some (record { rule = r; node = next })
member_broken ds above texts all first next m rest r p e =
    p.breach ∙ member_one ds above next (node_at texts m) (behind texts next m rest)
    ∙ ap (λ o. on o next (overriding_breach ds above (behind texts next m rest))) (sym e)

pub member_kept : (ds : Node) (above : Name) (texts : List (List ℕ)) (all : List held.Node) (first next after : ℕ) (m : held.Node) (rest : List held.Node)
    → Overriding ds above texts all first next (m ∷ rest) → None ≡ member_rule ds above (node_at texts m)
    → ((ts : List (List ℕ)) → after ≡ next + count_nodes (node_at ts m)) → Overriding ds above texts all first after rest
member_kept ds above texts all first next after m rest p e n =
    let c = p.count in
    let k = n [] in
    record {
      breach = p.breach ∙ member_one ds above next (node_at texts m) (behind texts next m rest)
          ∙ ap (λ o. on o next (overriding_breach ds above (behind texts next m rest))) (sym e)
          ∙ ap (λ i. overriding_breach ds above (numbered i (row_at texts rest))) (sym (n texts));
      count = omega (arith, c, k);
    }

-- ---- declarations

or_again : (a b c : Option Breach) → a or (b or c) ≡ (a or b) or c
or_again (Some x) b c = refl
or_again None b c = refl

asked_default : (b : Bool) (at : Spot) → asks b 10 at ≡ default_breach b at.id
asked_default true at = refl
asked_default false at = refl

row_one : (ds : Node) (d rest : Node) → inherited_breach ds (Then d rest) ≡ (one_breach ds d or inherited_breach ds rest)
row_one ds (ClassDecl at c (Some above) members) rest =
    ap (λ o. overriding_breach ds above members or o or inherited_breach ds rest) (asked_default (default_keeps ds above members) at)
    ∙ or_again (overriding_breach ds above members) (default_breach (default_keeps ds above members) at.id) (inherited_breach ds rest)
row_one ds _ rest = refl

-- with the rest, all declarations are asked
pub record Inheriting (ds : Node) (texts : List (List ℕ)) (all : List held.Node) (next : ℕ) (rest : List held.Node) : Type 0 where
  pub breach : inherited_breach ds (numbered 1 (row_at texts all)) ≡ inherited_breach ds (numbered next (row_at texts rest))
  pub count : next + count_nodes (row_at [] rest) ≡ 1 + count_nodes (row_at [] all)

pub inheriting_starts : (ds : Node) (texts : List (List ℕ)) (all : List held.Node) → Inheriting ds texts all 1 all
inheriting_starts ds texts all = record { breach = refl; count = refl }

pub declaration_broken : (ds : Node) (texts : List (List ℕ)) (all : List held.Node) (next : ℕ) (d : held.Node) (rest : List held.Node) (b : Breach)
    → Inheriting ds texts all next (d ∷ rest) → one_breach ds (numbered next (node_at texts d)) ≡ Some b
    → inherited_breach ds (numbered 1 (row_at texts all)) ≡ Some b
declaration_broken ds texts all next d rest b p e =
    p.breach ∙ row_one ds (numbered next (node_at texts d)) (behind texts next d rest) ∙ ap (λ o. o or inherited_breach ds (behind texts next d rest)) e

pub declaration_kept : (ds : Node) (texts : List (List ℕ)) (all : List held.Node) (next after : ℕ) (d : held.Node) (rest : List held.Node)
    → Inheriting ds texts all next (d ∷ rest) → one_breach ds (numbered next (node_at texts d)) ≡ None
    → ((ts : List (List ℕ)) → after ≡ next + count_nodes (node_at ts d)) → Inheriting ds texts all after rest
declaration_kept ds texts all next after d rest p e n =
    let c = p.count in
    let k = n [] in
    record {
      breach = p.breach ∙ row_one ds (numbered next (node_at texts d)) (behind texts next d rest)
          ∙ ap (λ o. o or inherited_breach ds (behind texts next d rest)) e
          ∙ ap (λ i. inherited_breach ds (numbered i (row_at texts rest))) (sym (n texts));
      count = omega (arith, c, k);
    }
