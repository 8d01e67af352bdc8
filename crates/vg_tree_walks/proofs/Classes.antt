-- The first class of a name in a row of declarations.
-- The code compares names by number, the definition by their bytes: `here` and `later` are its step at a class of that name and at what is none.
-- `Seeking` is the invariant of the loop over a row; the rest shows that what is no row, or no text, has no class.
use Rattle.std.proofs.Common.{◌≡◌, ℕ, ◌+◌, Bool, true, false, List, [], ◌∷◌, Option, Some, None, refl, sym, ap, ◌∙◌, arith}
use Rattle.std.specs.Prelude.{◌==◌, if◌then◌else◌}
use Rattle.std.specs.Str.{bytes_eq}
use Rattle.std.specs.Option.{option_map}
use Rattle.std.proofs.lemmas.Slice.Eq.{bytes_eq-Decides}
use Rattle.vg_tree.specs.declared.node.Node as held
use Rattle.vg_syntax.specs.Tree.{Node, Then, ClassDecl}
use Rattle.vg_syntax.specs.Classes.{ClassParts}
use Rattle.vg_syntax.specs.Outline.{size}
use Rattle.vg_syntax.specs.Numbering.{count_nodes, numbered}
use Rattle.vg_tree.specs.Held.{text_at, node_at, nodes_at, arms_at, arm_at, row_at}
use Rattle.vg_tree_walks.specs.Lookups.{IsOnly, class_in, first_class}
use Rattle.vg_tree_walks.specs.Classes.{names_class, is_row, is_text}
use Rattle.vg_tree_walks.proofs.Alike.{alike}

is_class_decl : Node → Bool
is_class_decl (ClassDecl at name above members) = true
is_class_decl _ = false

is_held_class : held.Node → Bool
is_held_class (held.ClassDecl' place name above p members) = true
is_held_class _ = false

skip : (name : List ℕ) (first rest : Node) → is_class_decl first ≡ false → class_in name (Then first rest) ≡ class_in name rest
unfolding is_class_decl
skip name (ClassDecl at other above members) rest e = absurd (let clash : true ≡ false = e in cc)
skip name _ rest e = refl

numbered_class : (i : ℕ) (n : Node) → is_class_decl (numbered i n) ≡ is_class_decl n
unfolding is_class_decl
numbered_class i (ClassDecl at name above members) = refl
numbered_class i _ = refl

row_no_class : (texts : List (List ℕ)) {m : _} (all : held.Row_of-Node m) → is_class_decl (nodes_at texts all) ≡ false
unfolding is_class_decl
row_no_class texts held.end_of-Node = refl
row_no_class texts (held.more_of-Node n rest) = refl

arms_no_class : (texts : List (List ℕ)) {m : _} (all : held.Row_of-Node m) → is_class_decl (arms_at texts all) ≡ false
unfolding is_class_decl
arms_no_class texts held.end_of-Node = refl
arms_no_class texts (held.more_of-Node n rest) = before n (arms_at texts rest) (arms_no_class texts rest)
  where
    before : (n : held.Node) (r : Node) → is_class_decl r ≡ false → is_class_decl (arm_at texts n r) ≡ false
    before (held.Pair' p c q b) r e = refl
    before _ r e = e

other_no_class : (texts : List (List ℕ)) (n : held.Node) → is_held_class n ≡ false → is_class_decl (node_at texts n) ≡ false
unfolding is_class_decl is_held_class
other_no_class texts (held.ClassDecl' place name above p members) e = absurd (let clash : true ≡ false = e in cc)
other_no_class texts (held.Row' shape all) e = row_no_class texts all
other_no_class texts (held.Arms' shape all) e = arms_no_class texts all
other_no_class texts _ e = refl

equal : (a b : ℕ) → (a == b) ≡ true → a ≡ b
equal a b e = grind arith

unequal : (a b : ℕ) → (a == b) ≡ false → a ≡ b → ⊥
unequal a b e f = grind arith

picks : (q : Bool) (k : ClassParts) (behind : Option ClassParts) → q ≡ true → option_map (λ c. c.at.id) (if q then Some k else behind) ≡ Some k.at.id
picks true k behind e = refl
picks false k behind e = absurd (let clash : false ≡ true = e in cc)

passes : (q : Bool) (k : ClassParts) (behind : Option ClassParts) → q ≡ false
    → option_map (λ c. c.at.id) (if q then Some k else behind) ≡ option_map (λ c. c.at.id) behind
passes true k behind e = absurd (let clash : true ≡ false = e in cc)
passes false k behind e = refl

equal_texts : (texts : List (List ℕ)) (a b : ℕ) → (a == b) ≡ true → bytes_eq (text_at texts a) (text_at texts b) ≡ true
equal_texts texts a b e = (bytes_eq-Decides (text_at texts a) (text_at texts b)).1 (ap (text_at texts) (equal a b e))

other_texts : (texts : List (List ℕ)) (a b : ℕ) → IsOnly texts b → (a == b) ≡ false → bytes_eq (text_at texts a) (text_at texts b) ≡ false
other_texts texts a b only e = by_test (bytes_eq (text_at texts a) (text_at texts b)) refl
  where
    by_test : (q : Bool) → bytes_eq (text_at texts a) (text_at texts b) ≡ q → q ≡ false
    by_test true f = absurd (unequal a b e (only a ((bytes_eq-Decides (text_at texts a) (text_at texts b)).0 f)))
    by_test false f = refl

here : (texts : List (List ℕ)) (name : ℕ) (n : held.Node) (i : ℕ) (rest : Node) → names_class name n ≡ true
    → class_in (text_at texts name) (numbered i (Then (node_at texts n) rest)) ≡ Some i
here texts name (held.ClassDecl' place other above p members) i rest e = picks _ _ _ (equal_texts texts other name e)
here texts name _ i rest e = absurd cc

later : (texts : List (List ℕ)) (name : ℕ) (n : held.Node) (i : ℕ) (rest : Node) → IsOnly texts name → names_class name n ≡ false
    → class_in (text_at texts name) (numbered i (Then (node_at texts n) rest))
    ≡ class_in (text_at texts name) (numbered (i + count_nodes (node_at texts n)) rest)
unfolding is_held_class
later texts name (held.ClassDecl' place other above p members) i rest only e = passes _ _ _ (other_texts texts other name only e)
later texts name n i rest only e =
    skip (text_at texts name) (numbered i (node_at texts n)) (numbered (i + count_nodes (node_at texts n)) rest)
    (numbered_class i (node_at texts n) ∙ other_no_class texts n refl)

-- the first class of the whole row is that of what is left, and the nodes passed have the numbers before
pub record Seeking (name : ℕ) (whole : held.Node) (left : List held.Node) (next : ℕ) : Type 0 where
  pub class : (texts : List (List ℕ)) → IsOnly texts name → class_in (text_at texts name) (numbered next (row_at texts left))
      ≡ class_in (text_at texts name) (numbered 1 (node_at texts whole))
  pub room : next + count_nodes (row_at [] left) ≡ 1 + count_nodes (node_at [] whole)

pub seeking_starts : (name : ℕ) (whole : held.Node) (left : List held.Node) → ((texts : List (List ℕ)) → node_at texts whole ≡ row_at texts left)
    → Seeking name whole left 1
seeking_starts name whole left e = record {
  class = λ texts only. sym (ap (λ n. class_in (text_at texts name) (numbered 1 n)) (e texts));
  room = sym (ap (λ n. 1 + count_nodes n) (e []));
}

pub seeking_here : (name : ℕ) (whole : held.Node) (n : held.Node) (left : List held.Node) (next : ℕ) → Seeking name whole (n ∷ left) next
    → names_class name n ≡ true
    → (texts : List (List ℕ)) → IsOnly texts name → Some next ≡ class_in (text_at texts name) (numbered 1 (node_at texts whole))
seeking_here name whole n left next s e texts only = sym (here texts name n next (row_at texts left) e) ∙ s.class texts only

pub seeking_on : (name : ℕ) (whole : held.Node) (n : held.Node) (left : List held.Node) (next later_on : ℕ) → Seeking name whole (n ∷ left) next
    → names_class name n ≡ false
    → later_on ≡ next + count_nodes (node_at [] n) → Seeking name whole left later_on
seeking_on name whole n left next later_on s e f = record {
  class = λ texts only.
      let same : later_on ≡ next + count_nodes (node_at texts n) = f ∙ sym (ap (λ o. next + size o) (alike texts n)) in
      ap (λ i. class_in (text_at texts name) (numbered i (row_at texts left))) same
      ∙ sym (later texts name n next (row_at texts left) only e)
      ∙ s.class texts only;
  room = let r = s.room in omega (arith, r, f);
}

-- what is no row has no class
arms_no_row : (texts : List (List ℕ)) (name : List ℕ) (i : ℕ) {m : _} (all : held.Row_of-Node m) → class_in name (numbered i (arms_at texts all)) ≡ None
arms_no_row texts name i held.end_of-Node = refl
arms_no_row texts name i (held.more_of-Node n rest) = before n (arms_at texts rest) (arms_no_row texts name i rest)
  where
    before : (n : held.Node) (r : Node) → class_in name (numbered i r) ≡ None → class_in name (numbered i (arm_at texts n r)) ≡ None
    before (held.Pair' p c q b) r e = refl
    before _ r e = e

pub no_row : (texts : List (List ℕ)) (name : List ℕ) (i : ℕ) (n : held.Node) → is_row n ≡ false → class_in name (numbered i (node_at texts n)) ≡ None
no_row texts name i (held.Row' shape all) e = absurd cc
no_row texts name i (held.Arms' shape all) e = arms_no_row texts name i all
no_row texts name i _ e = refl

-- what is no text has no class
row_no_text : (texts : List (List ℕ)) (name : List ℕ) (i : ℕ) {m : _} (all : held.Row_of-Node m) → first_class name (numbered i (nodes_at texts all)) ≡ None
row_no_text texts name i held.end_of-Node = refl
row_no_text texts name i (held.more_of-Node n rest) = refl

arms_no_text : (texts : List (List ℕ)) (name : List ℕ) (i : ℕ) {m : _} (all : held.Row_of-Node m) → first_class name (numbered i (arms_at texts all)) ≡ None
arms_no_text texts name i held.end_of-Node = refl
arms_no_text texts name i (held.more_of-Node n rest) = before n (arms_at texts rest) (arms_no_text texts name i rest)
  where
    before : (n : held.Node) (r : Node) → first_class name (numbered i r) ≡ None → first_class name (numbered i (arm_at texts n r)) ≡ None
    before (held.Pair' p c q b) r e = refl
    before _ r e = e

pub no_text : (texts : List (List ℕ)) (name : List ℕ) (i : ℕ) (n : held.Node) → is_text n ≡ false → first_class name (numbered i (node_at texts n)) ≡ None
no_text texts name i (held.Text' place p declarations) e = absurd cc
no_text texts name i (held.Row' shape all) e = row_no_text texts name i all
no_text texts name i (held.Arms' shape all) e = arms_no_text texts name i all
no_text texts name i _ e = refl
