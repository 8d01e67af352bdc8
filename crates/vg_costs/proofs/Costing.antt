-- How far the costs of rows are put.
use Rattle.std.proofs.Common.{◌≡◌, ℕ, false, List, [], ◌∷◌, ◌++◌, refl, sym, ap, ◌∙◌, subst}
use Rattle.vg_syntax.specs.Tree.{Node}
use Rattle.vg_tree.specs.declared.node.Node as held
use Rattle.vg_tree.specs.Held.{node_at, nodes_at, arms_at, row_at}
use Rattle.vg_types_counts.specs.Tallies.{has_members, is_row}
use Rattle.vg_costs.specs.Small.{AreSmall}
use Rattle.vg_costs.specs.Walked.{declared_cost, costs_of, member_costs, costs_in, is_method}

-- with those of the rest, the costs are those before and those of all
pub record Costing (go : Node → List ℕ) (all rest : List (List ℕ) → Node) (start here : List ℕ) : Type 0 where
  pub whole : (texts : List (List ℕ)) → here ++ go (rest texts) ≡ start ++ go (all texts)
  pub small : AreSmall (go (rest []))

pub costing_starts : (go : Node → List ℕ) (all rest : List (List ℕ) → Node) (start : List ℕ)
    → ((texts : List (List ℕ)) → all texts ≡ rest texts) → AreSmall (go (all [])) → Costing go all rest start start
costing_starts go all rest start h s = record {
  whole = λ texts. sym (ap (λ z. start ++ go z) (h texts));
  small = subst (λ z. AreSmall (go z)) (h []) s;
}

pub first_small : (xs ys : List ℕ) → AreSmall (xs ++ ys) → AreSmall xs
first_small [] ys h = tt
first_small (x ∷ xs) ys (a, h) = (a, first_small xs ys h)

pub rest_small : (xs ys : List ℕ) → AreSmall (xs ++ ys) → AreSmall ys
rest_small [] ys h = h
rest_small (x ∷ xs) ys (a, h) = rest_small xs ys h

pub nothing_more : (xs ys : List ℕ) → ys ≡ [] → xs ≡ xs ++ ys
nothing_more [] ys e = sym e
nothing_more (x ∷ xs) ys e = ap (λ z. x ∷ z) (nothing_more xs ys e)

together : (xs ys zs : List ℕ) → (xs ++ ys) ++ zs ≡ xs ++ (ys ++ zs)
together [] ys zs = refl
together (x ∷ xs) ys zs = ap (λ z. x ∷ z) (together xs ys zs)

-- ---- one more of a row

pub member_put : (all : List (List ℕ) → Node) (nodes : List held.Node) (n : held.Node) (start here there : List ℕ)
    → Costing costs_of all (λ texts. row_at texts (n ∷ nodes)) start here
    → ((texts : List (List ℕ)) → there ≡ here ++ declared_cost (node_at texts n)) → Costing costs_of all (λ texts. row_at texts nodes) start there
member_put all nodes n start here there t e = record {
  whole = λ texts.
      ap (λ z. z ++ costs_of (row_at texts nodes)) (e texts) ∙ together here (declared_cost (node_at texts n)) (costs_of (row_at texts nodes)) ∙ t.whole texts;
  small = rest_small (declared_cost (node_at [] n)) (costs_of (row_at [] nodes)) t.small;
}

pub declaration_put : (all : List (List ℕ) → Node) (nodes : List held.Node) (n : held.Node) (start here there : List ℕ)
    → Costing costs_in all (λ texts. row_at texts (n ∷ nodes)) start here
    → ((texts : List (List ℕ)) → there ≡ here ++ member_costs (node_at texts n)) → Costing costs_in all (λ texts. row_at texts nodes) start there
declaration_put all nodes n start here there t e = record {
  whole = λ texts.
      ap (λ z. z ++ costs_in (row_at texts nodes)) (e texts) ∙ together here (member_costs (node_at texts n)) (costs_in (row_at texts nodes)) ∙ t.whole texts;
  small = rest_small (member_costs (node_at [] n)) (costs_in (row_at [] nodes)) t.small;
}

-- ---- what is no method, no row and no class costs nothing

pub row_no_method : (texts : List (List ℕ)) {m : _} (all : held.Row_of-Node m) → declared_cost (nodes_at texts all) ≡ []
row_no_method texts held.end_of-Node = refl
row_no_method texts (held.more_of-Node n rest) = refl

pub arms_no_method : (texts : List (List ℕ)) {m : _} (all : held.Row_of-Node m) → declared_cost (arms_at texts all) ≡ []
arms_no_method texts held.end_of-Node = refl
arms_no_method texts (held.more_of-Node (held.Pair' p c q b) rest) = refl
arms_no_method texts (held.more_of-Node _ rest) = arms_no_method texts rest

pub no_method : (texts : List (List ℕ)) (n : held.Node) → is_method n ≡ false → declared_cost (node_at texts n) ≡ []
no_method texts (held.MethodDecl' place name params result p body) h = cc
no_method texts (held.Row' shape all) h = row_no_method texts all
no_method texts (held.Arms' shape all) h = arms_no_method texts all
no_method texts _ h = refl

pub arms_no_members : (texts : List (List ℕ)) {m : _} (all : held.Row_of-Node m) → costs_of (arms_at texts all) ≡ []
arms_no_members texts held.end_of-Node = refl
arms_no_members texts (held.more_of-Node (held.Pair' p c q b) rest) = refl
arms_no_members texts (held.more_of-Node _ rest) = arms_no_members texts rest

pub no_members : (texts : List (List ℕ)) (n : held.Node) → is_row n ≡ false → costs_of (node_at texts n) ≡ []
no_members texts (held.Row' shape all) h = cc
no_members texts (held.Arms' shape all) h = arms_no_members texts all
no_members texts _ h = refl

pub row_no_class : (texts : List (List ℕ)) {m : _} (all : held.Row_of-Node m) → member_costs (nodes_at texts all) ≡ []
row_no_class texts held.end_of-Node = refl
row_no_class texts (held.more_of-Node n rest) = refl

pub arms_no_class : (texts : List (List ℕ)) {m : _} (all : held.Row_of-Node m) → member_costs (arms_at texts all) ≡ []
arms_no_class texts held.end_of-Node = refl
arms_no_class texts (held.more_of-Node (held.Pair' p c q b) rest) = refl
arms_no_class texts (held.more_of-Node _ rest) = arms_no_class texts rest

pub no_class : (texts : List (List ℕ)) (n : held.Node) → has_members n ≡ false → member_costs (node_at texts n) ≡ []
no_class texts (held.ClassDecl' place name above p members) h = cc
no_class texts (held.ComponentDecl' place name p members) h = cc
no_class texts (held.Row' shape all) h = row_no_class texts all
no_class texts (held.Arms' shape all) h = arms_no_class texts all
no_class texts _ h = refl

pub arms_no_declarations : (texts : List (List ℕ)) {m : _} (all : held.Row_of-Node m) → costs_in (arms_at texts all) ≡ []
arms_no_declarations texts held.end_of-Node = refl
arms_no_declarations texts (held.more_of-Node (held.Pair' p c q b) rest) = refl
arms_no_declarations texts (held.more_of-Node _ rest) = arms_no_declarations texts rest

pub no_declarations : (texts : List (List ℕ)) (n : held.Node) → is_row n ≡ false → costs_in (node_at texts n) ≡ []
no_declarations texts (held.Row' shape all) h = cc
no_declarations texts (held.Arms' shape all) h = arms_no_declarations texts all
no_declarations texts _ h = refl
