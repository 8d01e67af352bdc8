-- Walks over rows.
use Rattle.std.proofs.Common.{◌≡◌, ℕ, zero, suc, ◌+◌, ◌<◌, ◌≤◌, List, [], ◌∷◌, Option, Some, None, length, drop, get_or, refl, sym, ap, ◌∙◌, arith}
use Rattle.vg_tree.specs.declared.node.Node as held
use Rattle.vg_tree_walks.specs.declared.walk.Walk.{Walk}
use Rattle.vg_syntax.specs.Tree.{Node, Nothing}
use Rattle.vg_syntax.specs.Outline.{Outline, Empty, Beside, outline, size, total}
use Rattle.vg_tree.specs.Held.{node_at, arm_at}
use Rattle.vg_tree_walks.specs.Children.{kid_at, kids_at}
use Rattle.vg_tree_walks.specs.Walks.{IsWalk, found, bulk}

-- with the rest, the walk has come as far as with all
pub record Passing (target : ℕ) (start here : Walk) (all rest : Outline) : Type 0 where
  pub next : here.next + size rest ≡ start.next + size all
  pub code : here.code + total rest ≡ start.code + total all
  pub found : here.found + found here.next target rest ≡ start.found + found start.next target all
  pub less : bulk rest ≤ bulk all
  pub sound : IsWalk here

pub passing_starts : (target : ℕ) (start : Walk) (all : Outline) → IsWalk start → Passing target start start all all
passing_starts target start all h = record { next = refl; code = refl; found = refl; less = omega arith; sound = h }

-- a front of an outline, and the rest of it
pub record Joins (all first rest : Outline) : Type 0 where
  pub sizes : size all ≡ size first + size rest
  pub totals : total all ≡ total first + total rest
  pub founds : (start i : ℕ) → found start i all ≡ found start i first + found (start + size first) i rest
  pub bulks : bulk first + bulk rest ≤ bulk all

pub passing_on : (target : ℕ) (start here there : Walk) (all left first rest : Outline) → Passing target start here all left → Joins left first rest
    → there.next ≡ here.next + size first → there.code ≡ here.code + total first → there.found ≡ here.found + found here.next target first → IsWalk there
    → Passing target start there all rest
passing_on target start here there all left first rest p j n c f s =
    let same : found there.next target rest ≡ found (here.next + size first) target rest = ap (λ i. found i target rest) n in
    let pn = p.next in
    let pc = p.code in
    let pf = p.found in
    let pl = p.less in
    let jn = j.sizes in
    let jc = j.totals in
    let jf = j.founds here.next target in
    let jl = j.bulks in
    record { next = omega (arith, pn, n, jn); code = omega (arith, pc, c, jc); found = omega (arith, pf, f, same, jf); less = omega (arith, pl, jl); sound = s }

pub beside_joins : (first rest : Outline) → Joins (Beside first rest) first rest
beside_joins first rest = record { sizes = refl; totals = refl; founds = λ start i. refl; bulks = omega arith }

none_joins : (rest : Outline) → Joins rest Empty rest
none_joins rest = record {
  sizes = omega arith;
  totals = omega arith;
  founds = λ start i. let same : found (start + 0) i rest ≡ found start i rest = ap (λ j. found j i rest) (omega arith) in omega (arith, same);
  bulks = omega arith;
}

pub kid_joins : (kid : Option held.Node) (kids : List (Option held.Node))
    → Joins (outline (kids_at [] (kid ∷ kids))) (outline (kid_at [] kid)) (outline (kids_at [] kids))
kid_joins None kids = none_joins (outline (kids_at [] kids))
kid_joins (Some n) kids = beside_joins (outline (node_at [] n)) (outline (kids_at [] kids))

pair_joins : (c b rest : Outline) → Joins (Beside c (Beside b rest)) (Beside c (Beside b Empty)) rest
pair_joins c b rest = record {
  sizes = omega arith;
  totals = omega arith;
  founds = λ start i.
      let same : found (start + (size c + (size b + 0))) i rest ≡ found (start + size c + size b) i rest = ap (λ j. found j i rest) (omega arith) in
      omega (arith, same);
  bulks = omega arith;
}

pub arm_joins : (n : held.Node) (rest : Node) → Joins (outline (arm_at [] n rest)) (outline (arm_at [] n Nothing)) (outline rest)
arm_joins (held.Pair' p c q b) rest = pair_joins (outline (node_at [] c)) (outline (node_at [] b)) (outline rest)
arm_joins _ rest = none_joins (outline rest)

-- what is left of a list
pub left_at : {A : Type 0} (xs : List A) (i : ℕ) (d : A) → i < length xs → drop i xs ≡ get_or xs i d ∷ drop (i + 1) xs
left_at [] i d h = absurd (omega (arith, h))
left_at (x ∷ xs) zero d h = refl
left_at (x ∷ xs) (suc i) d h =
    let one : suc i + 1 ≡ suc (i + 1) = omega arith in left_at xs i d (omega (arith, h)) ∙ ap (λ j. get_or xs i d ∷ drop j (x ∷ xs)) (sym one)

pub left_of : {A : Type 0} (xs : List A) (i : ℕ) (x : A) → i < length xs → get_or xs i x ≡ x → drop i xs ≡ x ∷ drop (i + 1) xs
left_of xs i x h e = left_at xs i x h ∙ ap (λ z. z ∷ drop (i + 1) xs) e
