-- Rows of code as lists: their steps, and how much is in them.
use Rattle.std.proofs.Common.{◌≡◌, ℕ, zero, suc, ◌+◌, ◌<◌, List, [], ◌∷◌, ◌++◌, length, get_or, Vec, Box, Global, refl, sym, ap, ◌∙◌, arith, append_assoc}
use Rattle.std.proofs.lemmas.List.{append-nil}
use Rattle.vg_meaning.specs.Code.{Code, Then, If}
use Rattle.vg_core.specs.declared.step.Step.{Step}
use Rattle.vg_core.specs.declared.code.Code as held
use Rattle.vg_core.specs.declared.code.Code.TheViews as views
use Rattle.vg_core.specs.HeldProgram.{code_of, row_of, chain_of, arms_of, before}
use Rattle.vg_live.specs.Uses.{uses}
use Rattle.vg_uses.specs.Walks.{all_uses, depth_of, row_depth, all_depth}

row_uses : (n : _) (k : held.Row_of-Code n) → uses (row_of k) ≡ all_uses (held.items-the_row-Code n k)
row_uses _ held.end_of-Code = refl
row_uses _ (held.more_of-Code c rest) = ap (λ z. uses (code_of c) ++ z) (row_uses _ rest)

chain_uses : (n : _) (k : held.Row_of-Code n) → uses (chain_of k) ≡ all_uses (held.items-the_row-Code n k)
chain_uses _ held.end_of-Code = refl
chain_uses _ (held.more_of-Code c held.end_of-Code) = sym (append-nil (uses (code_of c)))
chain_uses _ (held.more_of-Code c (held.more_of-Code d rest)) = ap (λ z. uses (code_of c) ++ z) (chain_uses _ (held.more_of-Code d rest))

depth_is : (n : _) (k : held.Row_of-Code n) → row_depth k ≡ all_depth (held.items-the_row-Code n k)
depth_is _ held.end_of-Code = refl
depth_is _ (held.more_of-Code c rest) = ap (λ m. suc (depth_of c + m)) (depth_is _ rest)

-- an arm, and then more
arm_uses : (c b xs : List Step) → c ++ (b ++ xs) ≡ (c ++ (b ++ [])) ++ xs
arm_uses c b xs = ap (λ z. c ++ (z ++ xs)) (sym (append-nil b)) ∙ sym (append_assoc c (b ++ []) xs)

other_uses : (c : List Step) (xs ys zs : List Step) → xs ≡ ys ++ zs → c ++ xs ≡ (c ++ ys) ++ zs
other_uses c xs ys zs e = ap (λ z. c ++ z) e ∙ sym (append_assoc c ys zs)

arms_uses : (n : _) (k : held.Row_of-Code n) (last : Code Step) → uses (arms_of k last) ≡ all_uses (held.items-the_row-Code n k) ++ uses last
arms_uses _ held.end_of-Code last = refl
arms_uses _ (held.more_of-Code (held.Arm' p c q b) rest) last =
    ap (λ z. uses (code_of c) ++ (uses (code_of b) ++ z)) (arms_uses _ rest last)
    ∙ (arm_uses (uses (code_of c)) (uses (code_of b)) (all_uses (held.items-the_row-Code _ rest) ++ uses last)
    ∙ sym (append_assoc (uses (code_of c) ++ (uses (code_of b) ++ [])) (all_uses (held.items-the_row-Code _ rest)) (uses last)))
arms_uses _ (held.more_of-Code (held.Row' s all) rest) last = other_uses (uses (code_of (held.Row' s all))) _ (all_uses (held.items-the_row-Code _ rest)) (uses last) (arms_uses _ rest last)
arms_uses _ (held.more_of-Code (held.Chain' s all) rest) last = other_uses (uses (code_of (held.Chain' s all))) _ (all_uses (held.items-the_row-Code _ rest)) (uses last) (arms_uses _ rest last)
arms_uses _ (held.more_of-Code (held.Do p) rest) last = other_uses (uses (code_of (held.Do p))) _ (all_uses (held.items-the_row-Code _ rest)) (uses last) (arms_uses _ rest last)
arms_uses _ (held.more_of-Code (held.If' p a q b) rest) last = other_uses (uses (code_of (held.If' p a q b))) _ (all_uses (held.items-the_row-Code _ rest)) (uses last) (arms_uses _ rest last)
arms_uses _ (held.more_of-Code (held.Arms' s all p a) rest) last = other_uses (uses (code_of (held.Arms' s all p a))) _ (all_uses (held.items-the_row-Code _ rest)) (uses last) (arms_uses _ rest last)
arms_uses _ (held.more_of-Code (held.Loop' p a q b r c) rest) last = other_uses (uses (code_of (held.Loop' p a q b r c))) _ (all_uses (held.items-the_row-Code _ rest)) (uses last) (arms_uses _ rest last)
arms_uses _ (held.more_of-Code held.Break rest) last = arms_uses _ rest last
arms_uses _ (held.more_of-Code held.Continue rest) last = arms_uses _ rest last
arms_uses _ (held.more_of-Code held.Return rest) last = arms_uses _ rest last

pub row_same : (n : held.Code) (v : Vec held.Code Global) (s : List held.Code) → n ≡ views.Row v → s ≡ v.items → uses (code_of n) ≡ all_uses s
row_same n v s e f =
    ap (λ z. uses (code_of z)) e ∙ row_uses _ (held.TheBlock.hidden-the_row-Code-0 v) ∙ ap all_uses (held.items_hidden-the_row-Code-0 v) ∙ sym (ap all_uses f)

pub chain_same : (n : held.Code) (v : Vec held.Code Global) (s : List held.Code) → n ≡ views.Chain v → s ≡ v.items → uses (code_of n) ≡ all_uses s
chain_same n v s e f =
    ap (λ z. uses (code_of z)) e ∙ chain_uses _ (held.TheBlock.hidden-the_row-Code-0 v) ∙ ap all_uses (held.items_hidden-the_row-Code-0 v) ∙ sym (ap all_uses f)

pub arms_same : (n : held.Code) (v : Vec held.Code Global) (b : Box held.Code Global) (s : List held.Code) (c : held.Code) → n ≡ views.Arms v b
    → s ≡ v.items → c ≡ b.value → uses (code_of n) ≡ all_uses s ++ uses (code_of c)
arms_same n v b s c e f g =
    ap (λ z. uses (code_of z)) e ∙ arms_uses _ (held.TheBlock.hidden-the_row-Code-0 v) (code_of b.value)
    ∙ ap (λ z. all_uses z ++ uses (code_of b.value)) (held.items_hidden-the_row-Code-0 v)
    ∙ sym (ap (λ z. all_uses z ++ uses (code_of b.value)) f) ∙ sym (ap (λ z. all_uses s ++ uses (code_of z)) g)

pub row_deep : (n : held.Code) (v : Vec held.Code Global) (s : List held.Code) → n ≡ views.Row v → s ≡ v.items → depth_of n ≡ suc (all_depth s)
row_deep n v s e f =
    ap depth_of e ∙ ap suc (depth_is _ (held.TheBlock.hidden-the_row-Code-0 v) ∙ ap all_depth (held.items_hidden-the_row-Code-0 v))
    ∙ sym (ap (λ z. suc (all_depth z)) f)

pub chain_deep : (n : held.Code) (v : Vec held.Code Global) (s : List held.Code) → n ≡ views.Chain v → s ≡ v.items → depth_of n ≡ suc (all_depth s)
chain_deep n v s e f =
    ap depth_of e ∙ ap suc (depth_is _ (held.TheBlock.hidden-the_row-Code-0 v) ∙ ap all_depth (held.items_hidden-the_row-Code-0 v))
    ∙ sym (ap (λ z. suc (all_depth z)) f)

pub arms_deep : (n : held.Code) (v : Vec held.Code Global) (b : Box held.Code Global) (s : List held.Code) (c : held.Code) → n ≡ views.Arms v b
    → s ≡ v.items → c ≡ b.value → depth_of n ≡ suc (all_depth s + depth_of c)
arms_deep n v b s c e f g =
    ap depth_of e ∙ ap (λ m. suc (m + depth_of b.value)) (depth_is _ (held.TheBlock.hidden-the_row-Code-0 v) ∙ ap all_depth (held.items_hidden-the_row-Code-0 v))
    ∙ sym (ap (λ z. suc (all_depth z + depth_of b.value)) f) ∙ sym (ap (λ z. suc (all_depth s + depth_of z)) g)

-- a part has less than its row
pub part_deep : (xs : List held.Code) (i : ℕ) (x : held.Code) → i < length xs → x ≡ get_or xs i x → depth_of x < all_depth xs
part_deep [] i x lt is = absurd (omega (arith, lt))
part_deep (y ∷ xs) zero x lt is = let e = ap depth_of is in omega (arith, e)
part_deep (y ∷ xs) (suc i) x lt is = let h = part_deep xs i x (omega (arith, lt)) is in omega (arith, h)

-- a row has something
pub some_depth : (xs : List held.Code) → 0 < all_depth xs
some_depth [] = omega arith
some_depth (x ∷ xs) = omega arith
