-- How far a text is passed.
-- `Going` is the invariant of each loop over nodes: behind what is left, xs much is found xs behind all; `Joins` splits what is left at its first.
use Rattle.std.proofs.Common.{◌≡◌, ℕ, ◌+◌, ◌≤◌, ◌<◌, true, false, List, [], ◌∷◌, ◌++◌, Option, Some, None, length, map, drop, get_or, option_map}
use Rattle.std.proofs.Common.{refl, sym, ap, ◌∙◌, subst, arith}
use Rattle.std.specs.Prelude.{flat_map}
use Rattle.std.proofs.lemmas.List.{append-nil, append_assoc}
use Rattle.std.proofs.lemmas.Grind.{flat_map-append}
use Rattle.vg_syntax.specs.Tree.{Node, Nothing, Then, Arm}
use Rattle.vg_syntax.specs.Outline.{Inner, outline, size}
use Rattle.vg_syntax.specs.Numbering.{count_nodes, numbered}
use Rattle.vg_tree.specs.declared.node.Node as held
use Rattle.vg_tree.specs.Held.{node_at, row_at, arm_at, arm_row}
use Rattle.vg_source.specs.Nodes.{nodes, literal_node, literal_bytes}
use Rattle.vg_tree_walks.specs.Walks.{bulk}
use Rattle.vg_tree_walks.specs.Children.{children_of, kid_at, kids_at, has_number, weight_of}
use Rattle.vg_tree_walks.proofs.Alike.{alike}
use Rattle.vg_tree_walks.proofs.Passing.{left_at}
use Rattle.vg_types_literals.specs.Found.{Seen, passed, behind, is_literal}

-- ---- what is found behind nodes

abbrev seen_of : ℕ → List ℕ → List (List ℕ) → Seen
seen_of i ns ts = record { next = i; nodes = ns; texts = ts }

same : (i j : ℕ) (a b : List ℕ) (c d : List (List ℕ)) → i ≡ j → a ≡ b → c ≡ d → seen_of i a c ≡ seen_of j b d
same i j a b c d e f g = ap (λ z. seen_of z a c) e ∙ ap (λ z. seen_of j z c) f ∙ ap (seen_of j b) g

pub none_found : (s : Seen) → behind Nothing s ≡ s
none_found s = same _ _ _ _ _ _ (omega arith) (append-nil s.nodes) (append-nil s.texts)

joined : {A : Type 0} (f : Node → List A) (zs : List A) (xs ys : List Node) → zs ++ flat_map f (xs ++ ys) ≡ zs ++ flat_map f xs ++ flat_map f ys
joined f zs xs ys = ap (λ z. zs ++ z) (flat_map-append f xs ys) ∙ sym (append_assoc zs (flat_map f xs) (flat_map f ys))

pub then_found : (a b : Node) (s : Seen) → behind (Then a b) s ≡ behind b (behind a s)
then_found a b s =
    same _ _ _ _ _ _ (omega arith) (joined literal_node s.nodes (nodes (numbered s.next a)) (nodes (numbered (s.next + count_nodes a) b)))
    (joined literal_bytes s.texts (nodes (numbered s.next a)) (nodes (numbered (s.next + count_nodes a) b)))

arm_is_row : (c b rest : Node) (s : Seen) → behind (Arm c b rest) s ≡ behind (Then c (Then b rest)) s
arm_is_row c b rest s =
    let i = s.next in
    let j = i + count_nodes c in
    let e = append_assoc (nodes (numbered i c)) (nodes (numbered j b)) (nodes (numbered (j + count_nodes b) rest)) in
    same _ _ _ _ _ _ refl (ap (λ z. s.nodes ++ flat_map literal_node z) e) (ap (λ z. s.texts ++ flat_map literal_bytes z) e)

pub arm_found : (c b rest : Node) (s : Seen) → behind (Arm c b rest) s ≡ behind rest (behind b (behind c s))
arm_found c b rest s = arm_is_row c b rest s ∙ then_found c (Then b rest) s ∙ then_found b rest (behind c s)

-- ---- a node and its children

one : (x : Node) (xs : List Node) → x ∷ xs ≡ x ∷ (xs ++ [])
one x xs = ap (λ z. x ∷ z) (sym (append-nil xs))

two : (x : Node) (xs ys : List Node) → x ∷ (xs ++ ys) ≡ x ∷ (xs ++ (ys ++ []))
two x xs ys = ap (λ z. x ∷ (xs ++ z)) (sym (append-nil ys))

four : (x : Node) (xs ys cs ds : List Node) → x ∷ (xs ++ ys ++ cs ++ ds) ≡ x ∷ (xs ++ (ys ++ (cs ++ (ds ++ []))))
four x xs ys cs ds =
    ap (λ z. x ∷ z) (append_assoc (xs ++ ys) cs ds ∙ append_assoc xs ys (cs ++ ds) ∙ ap (λ z. xs ++ (ys ++ (cs ++ z))) (sym (append-nil ds)))

nodes_of : (texts : List (List ℕ)) (i : ℕ) (n : held.Node) → has_number n ≡ true
    → nodes (numbered i (node_at texts n)) ≡ numbered i (node_at texts n) ∷ nodes (numbered (i + 1) (kids_at texts (children_of n)))
nodes_of texts i held.Nothing e = absurd cc
nodes_of texts i (held.Row' shape all) e = absurd cc
nodes_of texts i (held.Arms' shape all) e = absurd cc
nodes_of texts i (held.Pair' p c q b) e = absurd cc
nodes_of texts i (held.Text' place p a) e = one _ _
nodes_of texts i (held.ClassDecl' place name above p a) e = one _ _
nodes_of texts i (held.ComponentDecl' place name p a) e = one _ _
nodes_of texts i (held.DeviceDecl' place name p a) e = one _ _
nodes_of texts i (held.ProgramDecl' place name p a) e = one _ _
nodes_of texts i (held.FieldDecl' place name type p a) e = one _ _
nodes_of texts i (held.MethodDecl' place name params result p a) e = one _ _
nodes_of texts i (held.ConstructorDecl' place params calls_super p a q b) e = two _ _ _
nodes_of texts i (held.Block' place p a) e = one _ _
nodes_of texts i (held.Local' place name type p a) e = one _ _
nodes_of texts i (held.If' place p a q b) e = two _ _ _
nodes_of texts i (held.While' place p a q b) e = two _ _ _
nodes_of texts i (held.For' place p a q b r c s d) e =
    let j = i + 1 + count_nodes (node_at texts a) in
    let k = j + count_nodes (node_at texts b) in
    four _ (nodes (numbered (i + 1) (node_at texts a))) (nodes (numbered j (node_at texts b))) (nodes (numbered k (node_at texts c)))
    (nodes (numbered (k + count_nodes (node_at texts c)) (node_at texts d)))
nodes_of texts i (held.Return' place p a) e = one _ _
nodes_of texts i (held.Assign' place p a q b) e = two _ _ _
nodes_of texts i (held.Eval' place p a) e = one _ _
nodes_of texts i (held.NewObject' place s p a) e = one _ _
nodes_of texts i (held.NewArray' place type p a) e = one _ _
nodes_of texts i (held.Unary' place ops p a) e = one _ _
nodes_of texts i (held.Chain' place p a q b) e = two _ _ _
nodes_of texts i (held.Part' place op p a) e = one _ _
nodes_of texts i (held.Postfix' place p a q b) e = two _ _ _
nodes_of texts i (held.Index' place p a) e = one _ _
nodes_of texts i (held.Call' place p a) e = one _ _
nodes_of texts i _ e = refl

no_node : (texts : List (List ℕ)) (i : ℕ) (n : held.Node) → has_number n ≡ true → is_literal n ≡ false → literal_node (numbered i (node_at texts n)) ≡ []
no_node texts i held.Nothing e f = absurd cc
no_node texts i (held.Row' shape all) e f = absurd cc
no_node texts i (held.Arms' shape all) e f = absurd cc
no_node texts i (held.Pair' p c q b) e f = absurd cc
no_node texts i (held.StringLiteral place spelled) e f = absurd cc
no_node texts i _ e f = refl

no_bytes : (texts : List (List ℕ)) (i : ℕ) (n : held.Node) → has_number n ≡ true → is_literal n ≡ false → literal_bytes (numbered i (node_at texts n)) ≡ []
no_bytes texts i held.Nothing e f = absurd cc
no_bytes texts i (held.Row' shape all) e f = absurd cc
no_bytes texts i (held.Arms' shape all) e f = absurd cc
no_bytes texts i (held.Pair' p c q b) e f = absurd cc
no_bytes texts i (held.StringLiteral place spelled) e f = absurd cc
no_bytes texts i _ e f = refl

below : {A : Type 0} (f : Node → List A) (zs : List A) (x : Node) (xs ys : List Node) → xs ≡ x ∷ ys → f x ≡ []
    → zs ++ flat_map f xs ≡ zs ++ flat_map f ys
below f zs x xs ys e g = ap (λ z. zs ++ flat_map f z) e ∙ ap (λ z. zs ++ (z ++ flat_map f ys)) g

-- behind a node that is no literal
pub inner_found : (texts : List (List ℕ)) (n : held.Node) (s : Seen) → has_number n ≡ true → is_literal n ≡ false
    → outline (node_at texts n) ≡ Inner 0 (weight_of n) (outline (kids_at texts (children_of n)))
    → behind (kids_at texts (children_of n)) (passed s) ≡ behind (node_at texts n) s
inner_found texts n s e f o =
    sym (same _ _ _ _ _ _ (let z = ap size o in omega (arith, z))
    (below literal_node s.nodes (numbered s.next (node_at texts n)) _ _ (nodes_of texts s.next n e) (no_node texts s.next n e f))
    (below literal_bytes s.texts (numbered s.next (node_at texts n)) _ _ (nodes_of texts s.next n e) (no_bytes texts s.next n e f)))

-- ---- rows

-- with the rest, xs much is found xs behind all
pub record Going (texts : List (List ℕ)) (start here : Seen) (all rest : List (List ℕ) → Node) : Type 0 where
  pub whole : behind (rest texts) here ≡ behind (all texts) start
  pub room : here.next + count_nodes (rest []) ≡ start.next + count_nodes (all [])
  pub less : bulk (outline (rest [])) ≤ bulk (outline (all []))

-- a front, and the rest of it
pub record Joins (texts : List (List ℕ)) (all first rest : List (List ℕ) → Node) : Type 0 where
  pub split : (s : Seen) → behind (all texts) s ≡ behind (rest texts) (behind (first texts) s)
  pub count : count_nodes (first texts) ≡ count_nodes (first [])
  pub counts : count_nodes (all []) ≡ count_nodes (first []) + count_nodes (rest [])
  pub less : bulk (outline (first [])) + bulk (outline (rest [])) ≤ bulk (outline (all []))

pub going_on : (texts : List (List ℕ)) (start here there : Seen) (all left first rest : List (List ℕ) → Node) → Going texts start here all left
    → Joins texts left first rest → there ≡ behind (first texts) here → Going texts start there all rest
going_on texts start here there all left first rest g j e =
    let n = ap (λ z. z.next) e in
    let r = g.room in
    let c = j.count in
    let d = j.counts in
    let a = g.less in
    let b = j.less in
    record {
      whole = ap (behind (rest texts)) e ∙ sym (j.split here) ∙ g.whole;
      room = omega (arith, n, r, c, d);
      less = omega (arith, a, b);
    }

pub row_joins : (texts : List (List ℕ)) (n : held.Node) (rest : List held.Node)
    → Joins texts (λ texts. row_at texts (n ∷ rest)) (λ texts. node_at texts n) (λ texts. row_at texts rest)
row_joins texts n rest = record {
  split = then_found (node_at texts n) (row_at texts rest);
  count = ap size (alike texts n);
  counts = refl;
  less = omega arith;
}

pub kid_joins : (texts : List (List ℕ)) (kid : Option held.Node) (kids : List (Option held.Node))
    → Joins texts (λ texts. kids_at texts (kid ∷ kids)) (λ texts. kid_at texts kid) (λ texts. kids_at texts kids)
kid_joins texts None kids = record {
  split = λ s. ap (behind (kids_at texts kids)) (sym (none_found s));
  count = refl;
  counts = omega arith;
  less = omega arith;
}
kid_joins texts (Some n) kids = record {
  split = then_found (node_at texts n) (kids_at texts kids);
  count = ap size (alike texts n);
  counts = refl;
  less = omega arith;
}

pub arm_joins : (texts : List (List ℕ)) (n : held.Node) (rest : List held.Node)
    → Joins texts (λ texts. arm_row texts (n ∷ rest)) (λ texts. arm_at texts n Nothing) (λ texts. arm_row texts rest)
arm_joins texts (held.Pair' p c q b) rest = record {
  split = λ s.
      arm_found (node_at texts c) (node_at texts b) (arm_row texts rest) s
      ∙ ap (behind (arm_row texts rest))
      (sym (arm_found (node_at texts c) (node_at texts b) Nothing s ∙ none_found (behind (node_at texts b) (behind (node_at texts c) s))));
  count = let x = ap size (alike texts c) in let y = ap size (alike texts b) in omega (arith, x, y);
  counts = omega arith;
  less = omega arith;
}
arm_joins texts _ rest = record {
  split = λ s. ap (behind (arm_row texts rest)) (sym (none_found s));
  count = refl;
  counts = omega arith;
  less = omega arith;
}

-- ---- children

-- the kids that are left, with the first of them in front
pub kids_left : {B : Type 0} (texts : List (List ℕ)) (now : B → held.Node) (items : List (Option B)) (i : ℕ) (d : Option B) (start here : Seen)
    → i < length items
    → Going texts start here (λ texts. kids_at texts (map (option_map now) items)) (λ texts. kids_at texts (map (option_map now) (drop i items)))
    → Going texts start here (λ texts. kids_at texts (map (option_map now) items))
    (λ texts. kids_at texts (option_map now (get_or items i d) ∷ map (option_map now) (drop (i + 1) items)))
kids_left texts now items i d start here lt g =
    subst (λ r. Going texts start here (λ texts. kids_at texts (map (option_map now) items)) (λ texts. kids_at texts (map (option_map now) r)))
    (left_at items i d lt) g
