-- How far the parts of a node are measured.
-- `Measuring` is the invariant of each loop over nodes: with what is left, as much is measured as of all; `Joins` splits what is left at its first.
use Rattle.std.proofs.Common.{◌≡◌, ℕ, zero, suc, ◌+◌, ◌≤◌, ◌<◌, max, List, [], ◌∷◌, Option, Some, None, length, map, drop, get_or, option_map, refl, true}
use Rattle.std.proofs.Common.{sym, ap, ◌∙◌, subst, arith}
use Rattle.std.proofs.Math.Nat.{max-zero, zero-max}
use Rattle.vg_syntax.specs.Tree.{Node, Nothing}
use Rattle.vg_syntax.specs.Outline.{Inner, outline, size}
use Rattle.vg_syntax.specs.Numbering.{count_nodes}
use Rattle.vg_rules.specs.Counts.{levels}
use Rattle.vg_tree.specs.declared.node.Node as held
use Rattle.vg_tree.specs.Held.{node_at, arm_at, arm_row, row_at}
use Rattle.vg_tree_walks.specs.Walks.{bulk}
use Rattle.vg_tree_walks.proofs.Passing.{left_at}
use Rattle.vg_types_counts.specs.declared.extent.Extent.{Extent}
use Rattle.vg_tree_walks.specs.Children.{children_of, kid_at, kids_at, has_number}
use Rattle.vg_types_counts.specs.Extents.{locals_in, own_local, measured, empty, beside, around, IsExtent}

-- with the rest, as much is measured as of all
pub record Measuring (all rest : List (List ℕ) → Node) (here : Extent) : Type 0 where
  pub whole : (texts : List (List ℕ)) → beside here (measured (rest texts)) ≡ measured (all texts)
  pub less : bulk (outline (rest [])) ≤ bulk (outline (all []))
  pub sound : IsExtent here

-- a front, and the rest of it
pub record Joins (all first rest : List (List ℕ) → Node) : Type 0 where
  pub whole : (texts : List (List ℕ)) → measured (all texts) ≡ beside (measured (first texts)) (measured (rest texts))
  pub less : bulk (outline (first [])) + bulk (outline (rest [])) ≤ bulk (outline (all []))

abbrev extent_of : ℕ → ℕ → ℕ → Extent
extent_of a b c = record { nodes = a; locals = b; height = c }

same : (a b c d e f : ℕ) → a ≡ d → b ≡ e → c ≡ f → extent_of a b c ≡ extent_of d e f
same a b c d e f p q r = ap (λ z. extent_of z b c) p ∙ ap (λ z. extent_of d z c) q ∙ ap (extent_of d e) r

max_assoc : (a b c : ℕ) → max (max a b) c ≡ max a (max b c)
max_assoc a b c = omega arith

assoc : (a b c : Extent) → beside (beside a b) c ≡ beside a (beside b c)
assoc a b c = same _ _ _ _ _ _ (omega arith) (omega arith) (max_assoc a.height b.height c.height)

pub none_left : (a : Extent) → beside a empty ≡ a
none_left a = same _ _ _ _ _ _ (omega arith) (omega arith) (max-zero a.height)

none_before : (a : Extent) → beside empty a ≡ a
none_before a = same _ _ _ _ _ _ (omega arith) (omega arith) (zero-max a.height)

pub measuring_starts : (all rest : List (List ℕ) → Node) (here : Extent) → here ≡ empty → ((texts : List (List ℕ)) → all texts ≡ rest texts) → IsExtent here
    → Measuring all rest here
measuring_starts all rest here e h s = record {
  whole = λ texts. ap (λ z. beside z (measured (rest texts))) e ∙ none_before (measured (rest texts)) ∙ sym (ap measured (h texts));
  less = subst (λ z. bulk (outline (rest [])) ≤ bulk (outline z)) (sym (h [])) (omega arith);
  sound = s;
}

pub measuring_on : (all left first rest : List (List ℕ) → Node) (here more there : Extent) → Measuring all left here → Joins left first rest
    → ((texts : List (List ℕ)) → more ≡ measured (first texts)) → there ≡ beside here more → IsExtent there
    → Measuring all rest there
measuring_on all left first rest here more there m j f e s =
    let jl = j.less in
    let ml = m.less in
    record {
      whole = λ texts. ap (λ z. beside z (measured (rest texts))) e ∙ assoc here more (measured (rest texts))
          ∙ ap (λ z. beside here (beside z (measured (rest texts)))) (f texts) ∙ ap (beside here) (sym (j.whole texts)) ∙ m.whole texts;
      less = omega (arith, jl, ml);
      sound = s;
    }

-- the nodes of all and of a front
pub front_nodes : (all left first rest : List (List ℕ) → Node) (here : Extent) (texts : List (List ℕ)) → Measuring all left here → Joins left first rest
    → (measured (all texts)).nodes ≡ here.nodes + (measured (first texts)).nodes + (measured (rest texts)).nodes
front_nodes all left first rest here texts m j =
    let a = ap (λ z. z.nodes) (m.whole texts) in let b = ap (λ z. z.nodes) (j.whole texts) in omega (arith, a, b)

pub row_joins : (n : held.Node) (rest : List held.Node) → Joins (λ texts. row_at texts (n ∷ rest)) (λ texts. node_at texts n) (λ texts. row_at texts rest)
row_joins n rest = record { whole = λ texts. refl; less = omega arith }

pub kid_joins : (kid : Option held.Node) (kids : List (Option held.Node))
    → Joins (λ texts. kids_at texts (kid ∷ kids)) (λ texts. kid_at texts kid) (λ texts. kids_at texts kids)
kid_joins None kids = record { whole = λ texts. sym (none_before (measured (kids_at texts kids))); less = omega arith }
kid_joins (Some n) kids = record { whole = λ texts. refl; less = omega arith }

pub arm_joins : (n : held.Node) (rest : List held.Node)
    → Joins (λ texts. arm_row texts (n ∷ rest)) (λ texts. arm_at texts n Nothing) (λ texts. arm_row texts rest)
arm_joins (held.Pair' p c q b) rest = record {
  whole = λ texts.
      sym (ap (λ z. beside (beside (measured (node_at texts c)) z) (measured (arm_row texts rest))) (none_left (measured (node_at texts b)))
      ∙ assoc (measured (node_at texts c)) (measured (node_at texts b)) (measured (arm_row texts rest)));
  less = omega arith;
}
arm_joins _ rest = record { whole = λ texts. sym (none_before (measured (arm_row texts rest))); less = omega arith }

-- the kids that are left, with the first of them in front
pub kids_left : {B : Type 0} (now : B → held.Node) (items : List (Option B)) (i : ℕ) (d : Option B) (here : Extent) → i < length items
    → Measuring (λ texts. kids_at texts (map (option_map now) items)) (λ texts. kids_at texts (map (option_map now) (drop i items))) here
    → Measuring (λ texts. kids_at texts (map (option_map now) items))
    (λ texts. kids_at texts (option_map now (get_or items i d) ∷ map (option_map now) (drop (i + 1) items))) here
kids_left now items i d here lt m =
    subst (λ r. Measuring (λ texts. kids_at texts (map (option_map now) items)) (λ texts. kids_at texts (map (option_map now) r)) here) (left_at items i d lt) m

pub kid_fits : {B : Type 0} (now : B → held.Node) (items : List (Option B)) (i : ℕ) (d : Option B) (here : Extent) → i < length items
    → Measuring (λ texts. kids_at texts (map (option_map now) items)) (λ texts. kids_at texts (map (option_map now) (drop i items))) here
    → (here.nodes + count_nodes (kid_at [] (option_map now (get_or items i d))) ≤ count_nodes (kids_at [] (map (option_map now) items)))
    × (bulk (outline (kid_at [] (option_map now (get_or items i d)))) ≤ bulk (outline (kids_at [] (map (option_map now) items))))
kid_fits now items i d here lt m =
    let left = kids_left now items i d here lt m in
    let joins = kid_joins (option_map now (get_or items i d)) (map (option_map now) (drop (i + 1) items)) in
    let n = front_nodes _ _ _ _ here [] left joins in
    let l = left.less in
    let j = joins.less in
    (omega (arith, n), omega (arith, l, j))

none_behind : {A : Type 0} (xs : List A) (i : ℕ) → length xs ≤ i → drop i xs ≡ []
none_behind [] zero h = refl
none_behind [] (suc i) h = refl
none_behind (x ∷ xs) zero h = absurd (omega (arith, h))
none_behind (x ∷ xs) (suc i) h = none_behind xs i (omega (arith, h))

-- what is measured behind all kids
pub kids_done : {B : Type 0} (now : B → held.Node) (items : List (Option B)) (i : ℕ) (here : Extent) → length items ≤ i
    → Measuring (λ texts. kids_at texts (map (option_map now) items)) (λ texts. kids_at texts (map (option_map now) (drop i items))) here
    → (texts : List (List ℕ)) → here ≡ measured (kids_at texts (map (option_map now) items))
kids_done now items i here h m texts =
    sym (none_left here) ∙ sym (ap (λ r. beside here (measured (kids_at texts (map (option_map now) r)))) (none_behind items i h)) ∙ m.whole texts

pub node_measured : (a kids : Node) (own w : ℕ)
    → outline a ≡ Inner 0 w (outline kids) → locals_in a ≡ own + locals_in kids → around own (measured kids) ≡ measured a
node_measured a kids own w o l = same _ _ _ _ _ _ (sym (ap size o)) (sym l) (sym (ap levels o))

pub locals_of : (texts : List (List ℕ)) (n : held.Node) → has_number n ≡ true
    → locals_in (node_at texts n) ≡ own_local n + locals_in (kids_at texts (children_of n))
locals_of texts held.Nothing e = absurd cc
locals_of texts (held.Row' shape all) e = absurd cc
locals_of texts (held.Arms' shape all) e = absurd cc
locals_of texts (held.Pair' p c q b) e = absurd cc
locals_of texts _ e = omega arith
