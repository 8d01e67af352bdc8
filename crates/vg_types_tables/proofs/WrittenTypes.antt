-- Types as they are written: their sizes, their array levels, and rows of them. A row in memory is a list, by induction along it. So
-- many array levels add to those of the type below them; where there are at most four in all, each level by itself keeps rule 8.
use Rattle.std.proofs.Common.{◌≡◌, ◌<◌, ◌≤◌, ◌+◌, ◌-◌, ◌&&◌, nat_le, ℕ, zero, suc, Bool, true, false, List, [], ◌∷◌, length, get_or, Vec, Box, Global}
use Rattle.std.proofs.Common.{refl, sym, ap, ◌∙◌, arith}
use Rattle.vg_tree.specs.declared.type_tree.TypeTree as held
use Rattle.vg_tree.specs.declared.type_tree.TypeTree.TheViews as views
use Rattle.vg_syntax.specs.Tree.{Node, TypeTree, ArrayType}
use Rattle.vg_syntax.specs.Made.{arrays}
use Rattle.vg_tree.specs.Held.{type_at, type_row}
use Rattle.vg_tree.proofs.TypeLists.{type_of_row}
use Rattle.vg_rules.specs.Written.{levels, type_keeps}
use Rattle.vg_types_tables.specs.Sizes.{size_of, size_in, size_row}

-- ---- sizes

size_in_order : (n : _) (k : held.Row_of-TypeTree n) → size_in k ≡ size_row (held.items-the_row-TypeTree n k)
size_in_order _ held.end_of-TypeTree = refl
size_in_order _ (held.more_of-TypeTree t rest) = ap (λ k. suc (size_of t + k)) (size_in_order _ rest)

pub size_of_row : (node : held.TypeTree) (v : Vec held.TypeTree Global) (all : List held.TypeTree) → node ≡ views.Row v → all ≡ v.items
    → size_of node ≡ suc (size_row all)
size_of_row node v all e g =
    ap size_of e ∙ ap suc (size_in_order _ (held.TheBlock.hidden-the_row-TypeTree-0 v) ∙ ap size_row (held.items_hidden-the_row-TypeTree-0 v))
    ∙ ap (λ ts. suc (size_row ts)) (sym g)

-- one of a row is smaller than the row
pub one_smaller : (ts : List held.TypeTree) (i : ℕ) (t : held.TypeTree) → i < length ts → t ≡ get_or ts i t → size_of t < size_row ts
one_smaller [] i t h e = absurd (omega (arith, h))
one_smaller (u ∷ ts) zero t h e = let same = ap size_of e in omega (arith, same)
one_smaller (u ∷ ts) (suc i) t h e = let less = one_smaller ts i t (omega (arith, h)) e in omega (arith, less)

-- ---- rows

-- a row and the slice of its types
pub row_same : (texts : List (List ℕ)) (node : held.TypeTree) (v : Vec held.TypeTree Global) (all : List held.TypeTree) → node ≡ views.Row v
    → all ≡ v.items → type_row texts all ≡ type_at texts node
row_same texts node v all e g = ap (type_row texts) g ∙ sym (type_of_row texts v) ∙ ap (type_at texts) (sym e)

-- ---- array levels

pub levels_arrays : (n : ℕ) (t : TypeTree) → levels (arrays n t) ≡ n + levels t
levels_arrays zero t = omega arith
levels_arrays (suc n) t = let more = levels_arrays n t in omega (arith, more)

no_levels : (texts : List (List ℕ)) (ts : List held.TypeTree) → levels (type_row texts ts) ≡ 0
no_levels texts [] = refl
no_levels texts (t ∷ ts) = refl

-- a row has none
pub no_levels_within : (texts : List (List ℕ)) (node : held.TypeTree) (v : Vec held.TypeTree Global) → node ≡ views.Row v → (most : ℕ)
    → true ≡ nat_le (levels (type_at texts node)) most
no_levels_within texts node v e most =
    least most ∙ ap (λ k. nat_le k most) (sym (ap (λ t. levels (type_at texts t)) e ∙ ap levels (type_of_row texts v) ∙ no_levels texts v.items))
  where
    least : (n : ℕ) → true ≡ nat_le 0 n
    least n = grind arith

within : (n k most : ℕ) → n ≤ most → nat_le k (most - n) ≡ nat_le (n + k) most
within n k most h = grind arith

beyond : (n k most : ℕ) → most < n → nat_le n most ≡ nat_le (n + k) most
beyond n k most h = grind arith

module _ (texts : List (List ℕ)) (node : held.TypeTree) (n : ℕ) (element : Box held.TypeTree Global) (e : node ≡ views.Array n element) where
  levels_here : levels (type_at texts node) ≡ n + levels (type_at texts element.value)
  levels_here = ap (λ t. levels (type_at texts t)) e ∙ levels_arrays n (type_at texts element.value)

  -- the levels of an array type that has at most so many itself
  pub levels_within : (most : ℕ) (r : Bool) → n ≤ most → r ≡ nat_le (levels (type_at texts element.value)) (most - n)
      → r ≡ nat_le (levels (type_at texts node)) most
  levels_within most r h q = q ∙ within n (levels (type_at texts element.value)) most h ∙ ap (λ k. nat_le k most) (sym levels_here)

  -- and of one that has more
  pub levels_beyond : (most : ℕ) → most < n → nat_le n most ≡ nat_le (levels (type_at texts node)) most
  levels_beyond most h = beyond n (levels (type_at texts element.value)) most h ∙ ap (λ k. nat_le k most) (sym levels_here)

-- ---- rule 8

and_twice : (a b : Bool) → (a && b) ≡ (a && (a && b))
and_twice true b = refl
and_twice false b = refl

-- what keeps the rule on types has at most four array levels
keeps_levels : (ds : Node) (t : TypeTree) → type_keeps ds t ≡ (nat_le (levels t) 4 && type_keeps ds t)
keeps_levels ds (ArrayType t) = and_twice (nat_le (levels (ArrayType t)) 4) (type_keeps ds t)
keeps_levels ds t = refl

at_most_less : (n : ℕ) → nat_le (suc n) 4 ≡ true → nat_le n 4 ≡ true
at_most_less n e = grind arith

fewer : (n : ℕ) (a k : Bool) → nat_le (suc n) 4 ≡ a → (a && (nat_le n 4 && k)) ≡ (a && k)
fewer n true k e = ap (λ b. b && k) (at_most_less n e)
fewer n false k e = refl

-- an array type keeps the rule where it has at most four levels and its elements' type keeps it
keeps_arrays : (ds : Node) (n : ℕ) (t : TypeTree) → type_keeps ds (arrays n t) ≡ (nat_le (levels (arrays n t)) 4 && type_keeps ds t)
keeps_arrays ds zero t = keeps_levels ds t
keeps_arrays ds (suc n) t =
    ap (λ k. nat_le (levels (arrays (suc n) t)) 4 && k) (keeps_arrays ds n t)
    ∙ fewer (levels (arrays n t)) (nat_le (levels (arrays (suc n) t)) 4) (type_keeps ds t) refl

module _ (ds : Node) (texts : List (List ℕ)) (node : held.TypeTree) where
  pub keeps_array : (n : ℕ) (element : Box held.TypeTree Global) (l r : Bool) → node ≡ views.Array n element
      → l ≡ nat_le (levels (type_at texts node)) 4 → r ≡ type_keeps ds (type_at texts element.value) → (l && r) ≡ type_keeps ds (type_at texts node)
  keeps_array n element l r e h k =
      ap (λ b. b && r) (h ∙ ap (λ t. nat_le (levels (type_at texts t)) 4) e)
      ∙ ap (λ b. nat_le (levels (arrays n (type_at texts element.value))) 4 && b) k
      ∙ sym (keeps_arrays ds n (type_at texts element.value)) ∙ ap (λ t. type_keeps ds (type_at texts t)) (sym e)

  pub keeps_no_array : (n : ℕ) (element : Box held.TypeTree Global) (l : Bool) → node ≡ views.Array n element
      → l ≡ nat_le (levels (type_at texts node)) 4 → l ≡ false → l ≡ type_keeps ds (type_at texts node)
  keeps_no_array n element l e h f =
      f ∙ sym (ap (λ b. b && type_keeps ds (type_at texts element.value)) f)
      ∙ keeps_array n element l (type_keeps ds (type_at texts element.value)) e h refl

  pub keeps_row : (v : Vec held.TypeTree Global) (all : List held.TypeTree) (r : Bool) → node ≡ views.Row v → all ≡ v.items
      → r ≡ type_keeps ds (type_row texts all) → r ≡ type_keeps ds (type_at texts node)
  keeps_row v all r e g k = k ∙ ap (type_keeps ds) (row_same texts node v all e g)
