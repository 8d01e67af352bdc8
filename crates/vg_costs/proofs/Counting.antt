-- How far the locals of the parts of a node are counted.
-- `Counting` is the invariant of each loop over nodes: with what is left there are as many locals as in all; `Joins` splits what is left at its first.
use Rattle.std.proofs.Common.{◌≡◌, ℕ, zero, suc, ◌+◌, ◌≤◌, ◌<◌, List, [], ◌∷◌, Option, Some, None, length, map, drop, get_or, option_map, refl}
use Rattle.std.proofs.Common.{sym, ap, subst, arith}
use Rattle.vg_syntax.specs.Tree.{Node, Nothing}
use Rattle.vg_syntax.specs.Outline.{outline}
use Rattle.vg_tree.specs.declared.node.Node as held
use Rattle.vg_tree.specs.Held.{node_at, arm_at, arm_row, row_at}
use Rattle.vg_tree_walks.specs.Walks.{bulk}
use Rattle.vg_tree_walks.specs.Children.{kid_at, kids_at}
use Rattle.vg_tree_walks.proofs.Passing.{left_at}
use Rattle.vg_types_counts.specs.Extents.{locals_in}

-- with the rest there are as many locals as in all, and those before it
pub record Counting (before : ℕ) (all rest : List (List ℕ) → Node) (here : ℕ) : Type 0 where
  pub whole : (texts : List (List ℕ)) → here + locals_in (rest texts) ≡ before + locals_in (all texts)
  pub less : bulk (outline (rest [])) ≤ bulk (outline (all []))

-- a front, and the rest of it
pub record Joins (all first rest : List (List ℕ) → Node) : Type 0 where
  pub whole : (texts : List (List ℕ)) → locals_in (all texts) ≡ locals_in (first texts) + locals_in (rest texts)
  pub less : bulk (outline (first [])) + bulk (outline (rest [])) ≤ bulk (outline (all []))

pub counting_starts : (before : ℕ) (all rest : List (List ℕ) → Node) → ((texts : List (List ℕ)) → all texts ≡ rest texts) → Counting before all rest before
counting_starts before all rest h = record {
  whole = λ texts. sym (ap (λ z. before + locals_in z) (h texts));
  less = subst (λ z. bulk (outline (rest [])) ≤ bulk (outline z)) (sym (h [])) (omega arith);
}

pub counting_on : (before : ℕ) (all left first rest : List (List ℕ) → Node) (here more there : ℕ) → Counting before all left here → Joins left first rest
    → ((texts : List (List ℕ)) → more ≡ locals_in (first texts)) → there ≡ here + more → Counting before all rest there
counting_on before all left first rest here more there m j f e =
    let jl = j.less in
    let ml = m.less in
    record {
      whole = λ texts. let a = m.whole texts in let b = j.whole texts in let c = f texts in omega (arith, a, b, c, e);
      less = omega (arith, jl, ml);
    }

-- the locals of all and of a front
pub front_locals : (before : ℕ) (all left first rest : List (List ℕ) → Node) (here : ℕ) (texts : List (List ℕ)) → Counting before all left here → Joins left first rest
    → before + locals_in (all texts) ≡ here + locals_in (first texts) + locals_in (rest texts)
front_locals before all left first rest here texts m j = let a = m.whole texts in let b = j.whole texts in omega (arith, a, b)

pub row_joins : (n : held.Node) (rest : List held.Node) → Joins (λ texts. row_at texts (n ∷ rest)) (λ texts. node_at texts n) (λ texts. row_at texts rest)
row_joins n rest = record { whole = λ texts. refl; less = omega arith }

pub kid_joins : (kid : Option held.Node) (kids : List (Option held.Node))
    → Joins (λ texts. kids_at texts (kid ∷ kids)) (λ texts. kid_at texts kid) (λ texts. kids_at texts kids)
kid_joins None kids = record { whole = λ texts. omega arith; less = omega arith }
kid_joins (Some n) kids = record { whole = λ texts. refl; less = omega arith }

pub arm_joins : (n : held.Node) (rest : List held.Node)
    → Joins (λ texts. arm_row texts (n ∷ rest)) (λ texts. arm_at texts n Nothing) (λ texts. arm_row texts rest)
arm_joins (held.Pair' p c q b) rest = record { whole = λ texts. omega arith; less = omega arith }
arm_joins _ rest = record { whole = λ texts. omega arith; less = omega arith }

-- the kids that are left, with the first of them in front
pub kids_left : {B : Type 0} (now : B → held.Node) (before : ℕ) (items : List (Option B)) (i : ℕ) (d : Option B) (here : ℕ) → i < length items
    → Counting before (λ texts. kids_at texts (map (option_map now) items)) (λ texts. kids_at texts (map (option_map now) (drop i items))) here
    → Counting before (λ texts. kids_at texts (map (option_map now) items))
    (λ texts. kids_at texts (option_map now (get_or items i d) ∷ map (option_map now) (drop (i + 1) items))) here
kids_left now before items i d here lt m =
    subst (λ r. Counting before (λ texts. kids_at texts (map (option_map now) items)) (λ texts. kids_at texts (map (option_map now) r)) here) (left_at items i d lt) m

pub kid_fits : {B : Type 0} (now : B → held.Node) (before : ℕ) (items : List (Option B)) (i : ℕ) (d : Option B) (here : ℕ) → i < length items
    → Counting before (λ texts. kids_at texts (map (option_map now) items)) (λ texts. kids_at texts (map (option_map now) (drop i items))) here
    → (here + locals_in (kid_at [] (option_map now (get_or items i d))) ≤ before + locals_in (kids_at [] (map (option_map now) items)))
    × (bulk (outline (kid_at [] (option_map now (get_or items i d)))) ≤ bulk (outline (kids_at [] (map (option_map now) items))))
kid_fits now before items i d here lt m =
    let left = kids_left now before items i d here lt m in
    let joins = kid_joins (option_map now (get_or items i d)) (map (option_map now) (drop (i + 1) items)) in
    let n = front_locals before _ _ _ _ here [] left joins in
    let l = left.less in
    let j = joins.less in
    (omega (arith, n), omega (arith, l, j))

none_behind : {A : Type 0} (xs : List A) (i : ℕ) → length xs ≤ i → drop i xs ≡ []
none_behind [] zero h = refl
none_behind [] (suc i) h = refl
none_behind (x ∷ xs) zero h = absurd (omega (arith, h))
none_behind (x ∷ xs) (suc i) h = none_behind xs i (omega (arith, h))

-- what is counted behind all kids
pub kids_done : {B : Type 0} (now : B → held.Node) (before : ℕ) (items : List (Option B)) (i : ℕ) (here : ℕ) → length items ≤ i
    → Counting before (λ texts. kids_at texts (map (option_map now) items)) (λ texts. kids_at texts (map (option_map now) (drop i items))) here
    → (texts : List (List ℕ)) → here ≡ before + locals_in (kids_at texts (map (option_map now) items))
kids_done now before items i here h m texts =
    let none = ap (λ r. locals_in (kids_at texts (map (option_map now) r))) (none_behind items i h) in
    let all = m.whole texts in
    omega (arith, none, all)
