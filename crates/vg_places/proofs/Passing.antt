-- Searches over rows: with the rest, the search comes as far as with all.
use Rattle.std.proofs.Common.{◌≡◌, ℕ, ◌+◌, ◌<◌, ◌≤◌, List, [], ◌∷◌, ◌++◌, length, drop, get_or, refl, sym, ap, ◌∙◌, subst, arith, append-nil, append_assoc}
use Rattle.vg_base.specs.declared.place.Place.{Place}
use Rattle.vg_syntax.specs.Reads.{spot}
use Rattle.vg_syntax.specs.Tree.{Spot, Node, Nothing}
use Rattle.vg_syntax.specs.Outline.{outline}
use Rattle.vg_tree.specs.declared.node.Node as held
use Rattle.vg_tree.specs.Held.{node_at, arm_at, row_at, arm_row}
use Rattle.vg_tree_walks.specs.Walks.{bulk}
use Rattle.vg_tree_walks.proofs.Passing.{left_of, arm_joins}
use Rattle.vg_places.specs.declared.places.Search.{Search}
use Rattle.vg_places.specs.Places.{all, spots}
use Rattle.vg_places.specs.Search.{after_one, after}
use Rattle.vg_places.proofs.Found.{after_append}

pub record Passing (start here : Search) (all rest : List (List ℕ) → Node) : Type 0 where
  pub same : (texts : List (List ℕ)) → after here (spots (rest texts)) ≡ after start (spots (all texts))
  pub less : bulk (outline (rest [])) ≤ bulk (outline (all []))

pub passing_starts : (start : Search) (all rest : List (List ℕ) → Node) → ((texts : List (List ℕ)) → all texts ≡ rest texts) → Passing start start all rest
passing_starts start all rest e = record {
  same = λ texts. ap (λ a. after start (spots a)) (sym (e texts));
  less = let same : bulk (outline (all [])) ≡ bulk (outline (rest [])) = ap (λ a. bulk (outline a)) (e []) in omega (arith, same);
}

-- the rest without its first part, whose spots were passed
pub passing_on : (start here there : Search) (all left first rest : List (List ℕ) → Node) → Passing start here all left
    → ((texts : List (List ℕ)) → spots (left texts) ≡ spots (first texts) ++ spots (rest texts)) → bulk (outline (rest [])) ≤ bulk (outline (left []))
    → ((texts : List (List ℕ)) → there ≡ after here (spots (first texts))) → Passing start there all rest
passing_on start here there all left first rest p j l e = record {
  same = λ texts.
      ap (λ s. after s (spots (rest texts))) (e texts) ∙ sym (after_append here (spots (first texts)) (spots (rest texts)))
      ∙ ap (after here) (sym (j texts)) ∙ p.same texts;
  less = let m = p.less in omega (arith, l, m);
}

-- one node of a row
pub row_on : (start here there : Search) (all : List (List ℕ) → Node) (ns : List held.Node) (i : ℕ) (n : held.Node) → i < length ns → get_or ns i n ≡ n
    → Passing start here all (λ texts. row_at texts (drop i ns)) → ((texts : List (List ℕ)) → there ≡ after here (spots (node_at texts n)))
    → Passing start there all (λ texts. row_at texts (drop (i + 1) ns))
row_on start here there all ns i n l e p s =
    passing_on start here there all (λ texts. row_at texts (n ∷ drop (i + 1) ns)) (λ texts. node_at texts n) (λ texts. row_at texts (drop (i + 1) ns))
    (subst (λ r. Passing start here all (λ texts. row_at texts r)) (left_of ns i n l e) p) (λ texts. refl) (omega arith) s

arm_spots : (texts : List (List ℕ)) (n : held.Node) (rest : Node) → spots (arm_at texts n rest) ≡ spots (arm_at texts n Nothing) ++ spots rest
arm_spots texts (held.Pair' p c q b) rest =
    ap (λ l. spots (node_at texts c) ++ l) (ap (λ l. l ++ spots rest) (sym (append-nil (spots (node_at texts b)))))
    ∙ sym (append_assoc (spots (node_at texts c)) (spots (node_at texts b) ++ []) (spots rest))
arm_spots texts _ rest = refl

-- one pair of a row
pub arms_on : (start here there : Search) (all : List (List ℕ) → Node) (ns : List held.Node) (i : ℕ) (n : held.Node) → i < length ns → get_or ns i n ≡ n
    → Passing start here all (λ texts. arm_row texts (drop i ns)) → ((texts : List (List ℕ)) → there ≡ after here (spots (arm_at texts n Nothing)))
    → Passing start there all (λ texts. arm_row texts (drop (i + 1) ns))
arms_on start here there all ns i n l e p s =
    passing_on start here there all (λ texts. arm_row texts (n ∷ drop (i + 1) ns)) (λ texts. arm_at texts n Nothing) (λ texts. arm_row texts (drop (i + 1) ns))
    (subst (λ r. Passing start here all (λ texts. arm_row texts r)) (left_of ns i n l e) p) (λ texts. arm_spots texts n (arm_row texts (drop (i + 1) ns)))
    (let b = (arm_joins n (arm_row [] (drop (i + 1) ns))).bulks in omega (arith, b)) s

pub pair_after : (s : Search) (xs ys : List Spot) → after (after s xs) ys ≡ after s (xs ++ (ys ++ []))
pair_after s xs ys = sym (after_append s xs ys) ∙ ap (λ l. after s (xs ++ l)) (sym (append-nil ys))

-- a node and its children one behind another
pub parts_after : (s : Search) (place : Place) (a b c d : List Spot)
    → after (after (after (after (after_one s s.found place) a) b) c) d ≡ after s (spot place ∷ all (a ∷ b ∷ c ∷ d ∷ []))
parts_after s place a b c d =
    let s1 = after_one s s.found place in
    pair_after (after (after s1 a) b) c d ∙ sym (after_append (after s1 a) b (c ++ (d ++ []))) ∙ sym (after_append s1 a (b ++ (c ++ (d ++ []))))
