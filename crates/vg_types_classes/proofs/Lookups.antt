-- A look-up in the map of declarations finds a class.
use Rattle.std.proofs.Common.{◌≡◌, ℕ, zero, suc, ◌+◌, ◌==◌, Bool, true, false, List, [], ◌∷◌, Option, Some, None, slice_get, get_or, length, ◌≤◌}
use Rattle.std.proofs.Common.{◌<◌, if◌then◌else◌, refl, sym, ap, ◌∙◌, arith}
use Rattle.std.proofs.lemmas.Bool.{eq-eqb, eqb-true}
use Rattle.std.specs.Option.{option_map, MatchOption, IfSome}
use Rattle.std.specs.List.{HoldsAt}
use Rattle.std.proofs.lemmas.Option.{slice_get_past, slice_get-get_or}
use Rattle.vg_syntax.specs.Tree.{Node}
use Rattle.vg_syntax.specs.Classes.{class_named}
use Rattle.vg_syntax.specs.Numbering.{count_nodes, numbered}
use Rattle.vg_tree.specs.declared.node.Node as held
use Rattle.vg_tree.specs.Held.{node_at, nodes_at, arms_at, row_at}
use Rattle.vg_source.specs.Names.{Name}
use Rattle.vg_types_views.specs.ByText.{found}
use Rattle.vg_types_names.specs.declared.declaration.Declaration.{Declaration}
use Rattle.vg_types_names.specs.Lookups.{node_from, found_from, class_parts}
use Rattle.vg_types_names.proofs.Lookups.{class_agrees}
use Rattle.vg_types_classes.specs.Classes.{declarations_in, IsMapAt}
use Rattle.vg_types_classes.specs.Walk.{class_at}

abbrev above_in : Option Node → Option (Option Name)
above_in d = option_map (λ k. k.above) (class_parts d)

-- ---- one node

row_no_class : (texts : List (List ℕ)) (i : ℕ) {m : _} (all : held.Row_of-Node m) → above_in (Some (numbered i (nodes_at texts all))) ≡ None
row_no_class texts i held.end_of-Node = refl
row_no_class texts i (held.more_of-Node n rest) = refl

arms_no_class : (texts : List (List ℕ)) (i : ℕ) {m : _} (all : held.Row_of-Node m) → above_in (Some (numbered i (arms_at texts all))) ≡ None
arms_no_class texts i held.end_of-Node = refl
arms_no_class texts i (held.more_of-Node (held.Pair' p c q b) rest) = refl
arms_no_class texts i (held.more_of-Node _ rest) = arms_no_class texts i rest

one_class : (texts : List (List ℕ)) (i : ℕ) (n : held.Node) → above_in (Some (numbered i (node_at texts n))) ≡ class_at texts (Some n)
one_class texts i (held.Row' shape all) = row_no_class texts i all
one_class texts i (held.Arms' shape all) = arms_no_class texts i all
one_class texts i _ = refl

-- ---- the node at a place

at_place : (texts : List (List ℕ)) (nodes : List held.Node) (k i j : ℕ)
    → above_in (node_from k (numbered i (row_at texts nodes)) (k + j)) ≡ class_at texts (slice_get nodes j)
at_place texts [] k i j = refl
at_place texts (n ∷ nodes) k i zero =
    ap (λ b. above_in (if b then Some (numbered i (node_at texts n)) else node_from (suc k) (numbered (i + count_nodes (node_at texts n)) (row_at texts
    nodes)) (k + zero)))
    (eq-eqb k (k + zero) (omega arith))
    ∙ one_class texts i n
at_place texts (n ∷ nodes) k i (suc j) =
    by (k == k + suc j) refl
    ∙ ap (λ z. above_in (node_from (suc k) (numbered (i + count_nodes (node_at texts n)) (row_at texts nodes)) z)) (let e : k + suc j
    ≡ suc k + j = omega arith in e)
    ∙ at_place texts nodes (suc k) (i + count_nodes (node_at texts n)) j
  where
    behind : Option Node
    behind = node_from (suc k) (numbered (i + count_nodes (node_at texts n)) (row_at texts nodes)) (k + suc j)

    by : (b : Bool) → (k == k + suc j) ≡ b → above_in (if b then Some (numbered i (node_at texts n)) else behind) ≡ above_in behind
    by true e = let q = eqb-true k (k + suc j) e in absurd (omega (arith, q))
    by false e = refl

-- ---- the look-up

-- the node at the place of a declaration
abbrev pub place_in : List held.Node → Option Declaration → Option held.Node
place_in nodes (Some d) = slice_get nodes d.place
place_in nodes None = None

found_in : (texts : List (List ℕ)) (nodes : List held.Node) (o : Option Declaration)
    → above_in (found_from 0 (declarations_in texts nodes) o) ≡ class_at texts (place_in nodes o)
found_in texts nodes None = refl
found_in texts nodes (Some d) = ap (λ z. above_in (node_from 0 (declarations_in texts nodes) z)) (let e : d.place ≡ 0 + d.place = omega arith in e)
    ∙ at_place texts nodes 0 1 d.place

-- what a look-up by an index finds
pub got : {A B : Type 0} (now : B → A) (xs : List A) (i : ℕ) (r : Option B)
    → MatchOption r (length xs ≤ i) (λ x. (i < length xs) × HoldsAt (λ y. now x ≡ y) xs i) → IfSome r (λ x. now x ≡ get_or xs i (now x))
    → option_map now r ≡ slice_get xs i
got now xs i None m h = sym (slice_get_past xs i m)
got now xs i (Some x) m h = ap Some h ∙ sym (slice_get-get_or xs i (now x) m.0)

pub class_found : (texts : List (List ℕ)) (nodes : List held.Node) (m : List (Name × Declaration)) (x : Name) → IsMapAt texts nodes m
    → option_map (λ k. k.above) (class_named (declarations_in texts nodes) x) ≡ class_at texts (place_in nodes (found x m))
class_found texts nodes m x h =
    ap (option_map (λ k. k.above)) (class_agrees (declarations_in texts nodes) x h.differ h.declared)
    ∙ ap (λ z. above_in (found_from 0 (declarations_in texts nodes) (found x z))) (sym h.map)
    ∙ found_in texts nodes (found x m)
