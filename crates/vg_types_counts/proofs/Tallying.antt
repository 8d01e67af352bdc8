-- How far rows are counted.
use Rattle.std.proofs.Common.{◌≡◌, ℕ, ◌+◌, false, List, [], ◌∷◌, refl, sym, ap, ◌∙◌, arith}
use Rattle.vg_syntax.specs.Tree.{Node}
use Rattle.vg_syntax.specs.Numbering.{count_nodes}
use Rattle.vg_tree.specs.declared.node.Node as held
use Rattle.vg_tree.specs.Held.{node_at, nodes_at, arms_at, row_at}
use Rattle.vg_types_counts.specs.declared.tally.Tally.{Tally}
use Rattle.vg_types_counts.specs.Tallies.{passed, tally_member, tally_members, tally_declaration, tally_declarations, is_member, has_members, is_row, IsTally}

-- with the rest, the tally is that of all
pub record Tallying (go : Tally → Node → Tally) (all rest : List (List ℕ) → Node) (start here : Tally) : Type 0 where
  pub tally : (texts : List (List ℕ)) → go here (rest texts) ≡ go start (all texts)
  pub next : here.next + count_nodes (rest []) ≡ start.next + count_nodes (all [])
  pub sound : IsTally here

pub tallying_starts : (go : Tally → Node → Tally) (all rest : List (List ℕ) → Node) (start : Tally)
    → ((texts : List (List ℕ)) → all texts ≡ rest texts) → IsTally start
    → Tallying go all rest start start
tallying_starts go all rest start h s = record {
  tally = λ texts. sym (ap (go start) (h texts));
  next = ap (λ z. start.next + count_nodes z) (sym (h []));
  sound = s;
}

pub member_counted : (all : List (List ℕ) → Node) (nodes : List held.Node) (n : held.Node) (start here there : Tally)
    → Tallying tally_members all (λ texts. row_at texts (n ∷ nodes)) start here
    → ((texts : List (List ℕ)) → there ≡ tally_member here (node_at texts n)) → there.next ≡ here.next + count_nodes (node_at [] n) → IsTally there
    → Tallying tally_members all (λ texts. row_at texts nodes) start there
member_counted all nodes n start here there t e m s = record {
  tally = λ texts. ap (λ z. tally_members z (row_at texts nodes)) (e texts) ∙ t.tally texts;
  next = let p = t.next in omega (arith, p, m);
  sound = s;
}

pub declaration_counted : (all : List (List ℕ) → Node) (nodes : List held.Node) (n : held.Node) (start here there : Tally)
    → Tallying tally_declarations all (λ texts. row_at texts (n ∷ nodes)) start here
    → ((texts : List (List ℕ)) → there ≡ tally_declaration here (node_at texts n)) → there.next ≡ here.next + count_nodes (node_at [] n) → IsTally there
    → Tallying tally_declarations all (λ texts. row_at texts nodes) start there
declaration_counted all nodes n start here there t e m s = record {
  tally = λ texts. ap (λ z. tally_declarations z (row_at texts nodes)) (e texts) ∙ t.tally texts;
  next = let p = t.next in omega (arith, p, m);
  sound = s;
}

past_none : (t : Tally) → t ≡ passed t 0
past_none t = ap (λ n. record t { next = n }) (let e : t.next ≡ t.next + 0 = omega arith in e)

-- ---- what is no row and no member is passed

row_no_member : (t : Tally) (texts : List (List ℕ)) {m : _} (all : held.Row_of-Node m)
    → tally_member t (nodes_at texts all) ≡ passed t (count_nodes (nodes_at texts all))
row_no_member t texts held.end_of-Node = refl
row_no_member t texts (held.more_of-Node n rest) = refl

arms_no_member : (t : Tally) (texts : List (List ℕ)) {m : _} (all : held.Row_of-Node m)
    → tally_member t (arms_at texts all) ≡ passed t (count_nodes (arms_at texts all))
arms_no_member t texts held.end_of-Node = refl
arms_no_member t texts (held.more_of-Node (held.Pair' p c q b) rest) = refl
arms_no_member t texts (held.more_of-Node _ rest) = arms_no_member t texts rest

pub other_member : (t : Tally) (texts : List (List ℕ)) (n : held.Node) → is_member n ≡ false
    → tally_member t (node_at texts n) ≡ passed t (count_nodes (node_at texts n))
other_member t texts (held.FieldDecl' place name type p e) h = cc
other_member t texts (held.MethodDecl' place name params result p body) h = cc
other_member t texts (held.ConstructorDecl' place params calls_super p arguments q body) h = cc
other_member t texts (held.Row' shape all) h = row_no_member t texts all
other_member t texts (held.Arms' shape all) h = arms_no_member t texts all
other_member t texts _ h = refl

row_no_declaration : (t : Tally) (texts : List (List ℕ)) {m : _} (all : held.Row_of-Node m)
    → tally_declaration t (nodes_at texts all) ≡ passed t (count_nodes (nodes_at texts all))
row_no_declaration t texts held.end_of-Node = refl
row_no_declaration t texts (held.more_of-Node n rest) = refl

arms_no_declaration : (t : Tally) (texts : List (List ℕ)) {m : _} (all : held.Row_of-Node m)
    → tally_declaration t (arms_at texts all) ≡ passed t (count_nodes (arms_at texts all))
arms_no_declaration t texts held.end_of-Node = refl
arms_no_declaration t texts (held.more_of-Node (held.Pair' p c q b) rest) = refl
arms_no_declaration t texts (held.more_of-Node _ rest) = arms_no_declaration t texts rest

pub other_declaration : (t : Tally) (texts : List (List ℕ)) (n : held.Node) → has_members n ≡ false
    → tally_declaration t (node_at texts n) ≡ passed t (count_nodes (node_at texts n))
other_declaration t texts (held.ClassDecl' place name above p members) h = cc
other_declaration t texts (held.ComponentDecl' place name p members) h = cc
other_declaration t texts (held.Row' shape all) h = row_no_declaration t texts all
other_declaration t texts (held.Arms' shape all) h = arms_no_declaration t texts all
other_declaration t texts _ h = refl

arms_no_members : (t : Tally) (texts : List (List ℕ)) {m : _} (all : held.Row_of-Node m)
    → tally_members t (arms_at texts all) ≡ passed t (count_nodes (arms_at texts all))
arms_no_members t texts held.end_of-Node = past_none t
arms_no_members t texts (held.more_of-Node (held.Pair' p c q b) rest) = refl
arms_no_members t texts (held.more_of-Node _ rest) = arms_no_members t texts rest

pub no_members : (t : Tally) (texts : List (List ℕ)) (n : held.Node) → is_row n ≡ false
    → tally_members t (node_at texts n) ≡ passed t (count_nodes (node_at texts n))
no_members t texts held.Nothing h = past_none t
no_members t texts (held.Pair' p c q b) h = past_none t
no_members t texts (held.Row' shape all) h = cc
no_members t texts (held.Arms' shape all) h = arms_no_members t texts all
no_members t texts _ h = refl

arms_no_declarations : (t : Tally) (texts : List (List ℕ)) {m : _} (all : held.Row_of-Node m)
    → tally_declarations t (arms_at texts all) ≡ passed t (count_nodes (arms_at texts all))
arms_no_declarations t texts held.end_of-Node = past_none t
arms_no_declarations t texts (held.more_of-Node (held.Pair' p c q b) rest) = refl
arms_no_declarations t texts (held.more_of-Node _ rest) = arms_no_declarations t texts rest

pub no_declarations : (t : Tally) (texts : List (List ℕ)) (n : held.Node) → is_row n ≡ false
    → tally_declarations t (node_at texts n) ≡ passed t (count_nodes (node_at texts n))
no_declarations t texts held.Nothing h = past_none t
no_declarations t texts (held.Pair' p c q b) h = past_none t
no_declarations t texts (held.Row' shape all) h = cc
no_declarations t texts (held.Arms' shape all) h = arms_no_declarations t texts all
no_declarations t texts _ h = refl
