-- How far members and declarations are asked.
-- One member and one declaration is taken from a row (`member_one`, `row_one`). The records say that the rest, from the node that comes next, breaks
-- what all break; what keeps the rules leads to them again.
use Rattle.std.proofs.Common.{◌≡◌, ℕ, ◌+◌, Bool, true, false, List, [], ◌∷◌, Option, Some, None, refl, sym, ap, ◌∙◌, arith}
use Rattle.vg_syntax.specs.Tree.{Spot, Param, Node, Then, ClassDecl, ComponentDecl, FieldDecl, MethodDecl, ConstructorDecl}
use Rattle.vg_syntax.specs.Numbering.{count_nodes, numbered}
use Rattle.vg_tree.specs.declared.node.Node as held
use Rattle.vg_tree.specs.Held.{node_at, row_at}
use Rattle.vg_source.specs.Names.{Name}
use Rattle.vg_source.specs.Types.{NoType}
use Rattle.vg_source.specs.Declared.{written_type}
use Rattle.vg_source.specs.Resolved.{Owner, Fresh, no_names}
use Rattle.vg_source.specs.Program.{scope_of}
use Rattle.vg_rules.specs.Breach.{Breach, asks, ◌or◌}
use Rattle.vg_rules.specs.Bodies.{breach, initialiser_keeps}
use Rattle.vg_rules.specs.Legal.{body_of, outside, super_keeps, bodies_breach, written_breach}
use Rattle.vg_types_simple.specs.Asked.{asked}
use Rattle.vg_types_bodies.specs.Initial.{super_fits}
use Rattle.vg_types_routines.specs.Asked.{is_member, member_breach, one_breach}

-- ---- members

asked_is : (b : Bool) (rule : ℕ) (at : Spot) → asks b rule at ≡ asked b rule at.id
asked_is true rule at = refl
asked_is false rule at = refl

super_is : (ds : Node) (above : Option Name) (args : Node) (ps : List Param) → super_keeps ds above args ps ≡ super_fits ds above args (scope_of ps)
super_is ds None args ps = refl
super_is ds (Some above) args ps = refl

or_again : (a b c : Option Breach) → a or (b or c) ≡ (a or b) or c
or_again (Some x) b c = refl
or_again None b c = refl

member_one : (ds : Node) (o : Owner) (above : Option Name) (m rest : Node) → is_member m ≡ true
    → bodies_breach ds o above (Then m rest) ≡ (member_breach ds o above m or bodies_breach ds o above rest)
member_one ds o above (FieldDecl at x t e) rest h =
    ap (λ z. breach ds outside e Fresh no_names or z or bodies_breach ds o above rest)
    (asked_is (initialiser_keeps ds outside (written_type t) e no_names) 21 at)
    ∙ or_again (breach ds outside e Fresh no_names) (asked (initialiser_keeps ds outside (written_type t) e no_names) 21 at.id) (bodies_breach ds o above rest)
member_one ds o above (MethodDecl at x ps t body) rest h = refl
member_one ds o above (ConstructorDecl at ps calls args body) rest h =
    ap (λ z. breach ds outside args Fresh (scope_of ps) or z or breach ds (body_of o NoType) body Fresh (scope_of ps) or bodies_breach ds o above rest)
    (asked_is (super_keeps ds above args ps) 10 at ∙ ap (λ z. asked z 10 at.id) (super_is ds above args ps))
    ∙ or_again (breach ds outside args Fresh (scope_of ps)) (asked (super_fits ds above args (scope_of ps)) 10 at.id)
    (breach ds (body_of o NoType) body Fresh (scope_of ps) or bodies_breach ds o above rest)
    ∙ or_again (breach ds outside args Fresh (scope_of ps) or asked (super_fits ds above args (scope_of ps)) 10 at.id)
    (breach ds (body_of o NoType) body Fresh (scope_of ps)) (bodies_breach ds o above rest)
member_one ds o above _ rest h = cc

-- what breaks a rule is a member
breaks_one : (ds : Node) (o : Owner) (above : Option Name) (m : Node) (b : Breach) → member_breach ds o above m ≡ Some b → is_member m ≡ true
breaks_one ds o above (FieldDecl at x t e) b h = refl
breaks_one ds o above (MethodDecl at x ps t body) b h = refl
breaks_one ds o above (ConstructorDecl at ps calls args body) b h = refl
breaks_one ds o above _ b h = cc

abbrev pub behind : List (List ℕ) → ℕ → held.Node → List held.Node → Node
behind texts next d rest = numbered (next + count_nodes (node_at texts d)) (row_at texts rest)

-- with the rest, all members are asked
pub record Members (ds : Node) (o : Owner) (above : Option Name) (texts : List (List ℕ)) (all : List held.Node) (first next : ℕ) (rest : List held.Node)
    : Type 0 where
  pub breach : bodies_breach ds o above (numbered first (row_at texts all)) ≡ bodies_breach ds o above (numbered next (row_at texts rest))
  pub count : next + count_nodes (row_at texts rest) ≡ first + count_nodes (row_at texts all)

module _ (ds : Node) (o : Owner) (above : Option Name) (texts : List (List ℕ)) (all : List held.Node) (first : ℕ) where
  pub members_start : Members ds o above texts all first first all
  members_start = record { breach = refl; count = refl }

  pub member_broken : (next : ℕ) (m : held.Node) (rest : List held.Node) (b : Breach) → Members ds o above texts all first next (m ∷ rest)
      → member_breach ds o above (numbered next (node_at texts m)) ≡ Some b → bodies_breach ds o above (numbered first (row_at texts all)) ≡ Some b
  member_broken next m rest b p e =
      p.breach
      ∙ member_one ds o above (numbered next (node_at texts m)) (behind texts next m rest) (breaks_one ds o above (numbered next (node_at texts m)) b e)
      ∙ ap (λ z. z or bodies_breach ds o above (behind texts next m rest)) e

  pub member_kept : (next after : ℕ) (m : held.Node) (rest : List held.Node) → Members ds o above texts all first next (m ∷ rest)
      → is_member (numbered next (node_at texts m)) ≡ true → member_breach ds o above (numbered next (node_at texts m)) ≡ None
      → after ≡ next + count_nodes (node_at texts m) → Members ds o above texts all first after rest
  member_kept next after m rest p i e n =
      let c = p.count in
      record {
        breach = p.breach ∙ member_one ds o above (numbered next (node_at texts m)) (behind texts next m rest) i
            ∙ ap (λ z. z or bodies_breach ds o above (behind texts next m rest)) e
            ∙ ap (λ k. bodies_breach ds o above (numbered k (row_at texts rest))) (sym n);
        count = omega (arith, c, n);
      }

-- ---- declarations

row_one : (ds d rest : Node) → written_breach ds (Then d rest) ≡ (one_breach ds d or written_breach ds rest)
row_one ds (ClassDecl at c above members) rest = refl
row_one ds (ComponentDecl at c members) rest = refl
row_one ds _ rest = refl

-- with the rest, all declarations are asked
pub record Writing (ds : Node) (texts : List (List ℕ)) (all : List held.Node) (next : ℕ) (rest : List held.Node) : Type 0 where
  pub breach : written_breach ds (numbered 1 (row_at texts all)) ≡ written_breach ds (numbered next (row_at texts rest))
  pub count : next + count_nodes (row_at texts rest) ≡ 1 + count_nodes (row_at texts all)

module _ (ds : Node) (texts : List (List ℕ)) (all : List held.Node) where
  pub writing_starts : Writing ds texts all 1 all
  writing_starts = record { breach = refl; count = refl }

  pub declaration_broken : (next : ℕ) (d : held.Node) (rest : List held.Node) (b : Breach) → Writing ds texts all next (d ∷ rest)
      → one_breach ds (numbered next (node_at texts d)) ≡ Some b → written_breach ds (numbered 1 (row_at texts all)) ≡ Some b
  declaration_broken next d rest b p e =
      p.breach ∙ row_one ds (numbered next (node_at texts d)) (behind texts next d rest) ∙ ap (λ z. z or written_breach ds (behind texts next d rest)) e

  pub declaration_kept : (next after : ℕ) (d : held.Node) (rest : List held.Node) → Writing ds texts all next (d ∷ rest)
      → one_breach ds (numbered next (node_at texts d)) ≡ None → after ≡ next + count_nodes (node_at texts d) → Writing ds texts all after rest
  declaration_kept next after d rest p e n =
      let c = p.count in
      record {
        breach = p.breach ∙ row_one ds (numbered next (node_at texts d)) (behind texts next d rest)
            ∙ ap (λ z. z or written_breach ds (behind texts next d rest)) e
            ∙ ap (λ k. written_breach ds (numbered k (row_at texts rest))) (sym n);
        count = omega (arith, c, n);
      }
