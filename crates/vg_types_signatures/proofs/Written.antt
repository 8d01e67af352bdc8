-- Types as they are written.
use Rattle.std.proofs.Common.{◌≡◌, ℕ, zero, suc, ◌+◌, ◌==◌, ◌&&◌, ◌||◌, nat_le, Bool, true, false, List, [], ◌∷◌, Vec, Global, refl, sym, ap, ◌∙◌, arith}
use Rattle.vg_syntax.specs.Tree.{TypeTree, Node}
use Rattle.vg_syntax.specs.Made.{arrays}
use Rattle.vg_tree.specs.declared.type_tree.TypeTree as held
use Rattle.vg_tree.specs.declared.type_tree.TypeTree.TheViews as views
use Rattle.vg_tree.proofs.TypeLists.{type_of_row}
use Rattle.vg_tree.specs.Held.{type_at, type_row}
use Rattle.vg_rules.specs.Written.{levels, type_keeps}
use Rattle.vg_types_signatures.specs.Asked.{levels_keep}

-- ---- arrays

pub levels_over : (n : ℕ) (t : TypeTree) → levels (arrays n t) ≡ n + levels t
levels_over zero t = omega arith
levels_over (suc n) t = let e = levels_over n t in omega (arith, e)

both_within : (n l : ℕ) (k : Bool) → (nat_le (suc (n + l)) 4 && (((n == 0) || nat_le (n + l) 4) && k)) ≡ (((suc n == 0) || nat_le (suc n + l) 4) && k)
both_within n l k = grind arith

pub keeps_over : (ds : Node) (n : ℕ) (t : TypeTree) → type_keeps ds (arrays n t) ≡ (levels_keep n t && type_keeps ds t)
keeps_over ds zero t = refl
keeps_over ds (suc n) t =
    ap (λ l. nat_le (suc l) 4 && type_keeps ds (arrays n t)) (levels_over n t)
    ∙ ap (λ k. nat_le (suc (n + levels t)) 4 && k) (keeps_over ds n t)
    ∙ both_within n (levels t) (type_keeps ds t)

-- an array whose levels are few is asked by its element
pub array_kept : (ds : Node) (n : ℕ) (t u : TypeTree) (l k : Bool) → t ≡ arrays n u
    → l ≡ levels_keep n u → l ≡ true → k ≡ type_keeps ds u → k ≡ type_keeps ds t
array_kept ds n t u l k e f g h =
    h ∙ sym (ap (type_keeps ds) e ∙ keeps_over ds n u ∙ ap (λ b. b && type_keeps ds u) (sym f ∙ g))

pub array_broken : (ds : Node) (n : ℕ) (t u : TypeTree) (l : Bool) → t ≡ arrays n u
    → l ≡ levels_keep n u → l ≡ false → l ≡ type_keeps ds t
array_broken ds n t u l e f g =
    g ∙ sym (ap (type_keeps ds) e ∙ keeps_over ds n u ∙ ap (λ b. b && type_keeps ds u) (sym f ∙ g))

-- ---- rows

pub row_levels : (texts : List (List ℕ)) (ts : List held.TypeTree) → levels (type_row texts ts) ≡ 0
row_levels texts [] = refl
row_levels texts (t ∷ ts) = refl

pub type_row_same : (texts : List (List ℕ)) (t : held.TypeTree) (v : Vec held.TypeTree Global) (s : List held.TypeTree) → t ≡ views.Row v → s ≡ v.items
    → type_row texts s ≡ type_at texts t
type_row_same texts t v s e f = ap (type_row texts) f ∙ sym (ap (type_at texts) e ∙ type_of_row texts v)
