-- Rows of code as lists, one more at a time.
use Rattle.std.proofs.Common.{◌≡◌, refl, sym, ap, ◌∙◌, arith, ℕ, zero, suc, ◌+◌, ◌<◌, false, List, [], ◌∷◌, ◌++◌, drop, length, get_or, Vec, Box, Global}
use Rattle.std.proofs.lemmas.List.{drop_more}
use Rattle.vg_meaning.specs.Code.{Code, Nothing, Then}
use Rattle.vg_core.specs.declared.step.Step.{Step}
use Rattle.vg_core.specs.declared.code.Code as held
use Rattle.vg_core.specs.declared.code.Code.TheViews as views
use Rattle.vg_core.specs.HeldProgram.{code_of, row_of, chain_of, arms_of, code_row, code_chain}
use Rattle.vg_pairs.specs.Lists.{arm_then, arms_list, codes_list, is_arm}

row_in_order : (n : _) (k : held.Row_of-Code n) → row_of k ≡ code_row (held.items-the_row-Code n k)
row_in_order _ held.end_of-Code = refl
row_in_order _ (held.more_of-Code c rest) = ap (Then (code_of c)) (row_in_order _ rest)

chain_in_order : (n : _) (k : held.Row_of-Code n) → chain_of k ≡ code_chain (held.items-the_row-Code n k)
chain_in_order _ held.end_of-Code = refl
chain_in_order _ (held.more_of-Code c held.end_of-Code) = refl
chain_in_order _ (held.more_of-Code c (held.more_of-Code d rest)) = ap (Then (code_of c)) (chain_in_order _ (held.more_of-Code d rest))

arms_in_order : (last : Code Step) (n : _) (k : held.Row_of-Code n) → arms_of k last ≡ arms_list (held.items-the_row-Code n k) last
arms_in_order last _ held.end_of-Code = refl
arms_in_order last _ (held.more_of-Code c rest) = by c ∙ ap (arm_then c) (arms_in_order last _ rest)
  where
    by : (c : held.Code) → arms_of (held.more_of-Code c rest) last ≡ arm_then c (arms_of rest last)
    by (held.Arm' p a q b) = refl
    by _ = refl

pub row_same : (n : held.Code) (v : Vec held.Code Global) (s : List held.Code) → n ≡ views.Row v → s ≡ v.items → code_of n ≡ code_row s
row_same n v s e f =
    ap code_of e ∙ row_in_order _ (held.TheBlock.hidden-the_row-Code-0 v) ∙ ap code_row (held.items_hidden-the_row-Code-0 v) ∙ sym (ap code_row f)

pub chain_same : (n : held.Code) (v : Vec held.Code Global) (s : List held.Code) → n ≡ views.Chain v → s ≡ v.items → code_of n ≡ code_chain s
chain_same n v s e f =
    ap code_of e ∙ chain_in_order _ (held.TheBlock.hidden-the_row-Code-0 v) ∙ ap code_chain (held.items_hidden-the_row-Code-0 v) ∙ sym (ap code_chain f)

pub arms_same : (n : held.Code) (v : Vec held.Code Global) (b : Box held.Code Global) (s : List held.Code) (c : held.Code) → n ≡ views.Arms v b
    → s ≡ v.items → c ≡ b.value → code_of n ≡ arms_list s (code_of c)
arms_same n v b s c e f g =
    ap code_of e ∙ arms_in_order (code_of b.value) _ (held.TheBlock.hidden-the_row-Code-0 v)
    ∙ ap (λ z. arms_list z (code_of b.value)) (held.items_hidden-the_row-Code-0 v)
    ∙ sym (ap (λ z. arms_list z (code_of b.value)) f) ∙ sym (ap (λ z. arms_list s (code_of z)) g)

pub row_list : (xs : List held.Code) → code_row xs ≡ codes_list xs Nothing
row_list [] = refl
row_list (x ∷ xs) = ap (Then (code_of x)) (row_list xs)

pub code_of_row : (v : Vec held.Code Global) → code_of (views.Row v) ≡ codes_list v.items Nothing
code_of_row v = row_same (views.Row v) v v.items refl refl ∙ row_list v.items

pub code_of_chain : (v : Vec held.Code Global) → code_of (views.Chain v) ≡ code_chain v.items
code_of_chain v = chain_same (views.Chain v) v v.items refl refl

pub code_of_arms : (v : Vec held.Code Global) (b : Box held.Code Global) → code_of (views.Arms v b) ≡ arms_list v.items (code_of b.value)
code_of_arms v b = arms_same (views.Arms v b) v b v.items b.value refl refl refl

pub codes_more : (xs : List held.Code) (c : held.Code) (z : Code Step) → is_arm c ≡ false → codes_list (xs ++ c ∷ []) z ≡ codes_list xs (Then (code_of c) z)
codes_more [] c z e = refl
codes_more (x ∷ xs) c z e = ap (Then (code_of x)) (codes_more xs c z e)

pub arms_more : (xs : List held.Code) (c : held.Code) (z : Code Step) → arms_list (xs ++ c ∷ []) z ≡ arms_list xs (arm_then c z)
arms_more [] c z = refl
arms_more (x ∷ xs) c z = ap (arm_then x) (arms_more xs c z)

no_arm : (c : held.Code) (z : Code Step) → is_arm c ≡ false → arm_then c z ≡ Then (code_of c) z
no_arm (held.Arm' p a q b) z e = absurd (grind (arith, e))
no_arm _ z e = refl

pub arms_more_code : (xs : List held.Code) (c : held.Code) (z : Code Step) → is_arm c ≡ false → arms_list (xs ++ c ∷ []) z ≡ arms_list xs (Then (code_of c) z)
arms_more_code xs c z e = arms_more xs c z ∙ ap (arms_list xs) (no_arm c z e)

pub chain_last : (xs : List held.Code) (c : held.Code) → code_chain (xs ++ c ∷ []) ≡ codes_list xs (code_of c)
chain_last [] c = refl
chain_last (x ∷ []) c = refl
chain_last (x ∷ y ∷ ys) c = ap (Then (code_of x)) (chain_last (y ∷ ys) c)

-- the rest from a place on begins with what stands there
pub rest_at : (xs : List held.Code) (i : ℕ) (x : held.Code) → i < length xs → x ≡ get_or xs i x → drop i xs ≡ x ∷ drop (i + 1) xs
rest_at xs i x lt is = drop_more xs i x lt ∙ ap (λ z. z ∷ drop (i + 1) xs) (sym is)

pub one : (i : ℕ) → suc i ≡ i + 1
one i = omega arith

pub behind : (y : held.Code) (ys : List held.Code) → 0 < length ys → code_chain (y ∷ ys) ≡ Then (code_of y) (code_chain ys)
behind y [] lt = absurd (omega (arith, lt))
behind y (z ∷ ys) lt = refl

pub more_left : (ys : List held.Code) (i : ℕ) → suc i < length ys → 0 < length (drop (suc i) ys)
more_left [] i lt = absurd (omega (arith, lt))
more_left (y ∷ []) zero lt = absurd (omega (arith, lt))
more_left (y ∷ z ∷ ys) zero lt = omega arith
more_left (y ∷ ys) (suc i) lt = more_left ys i (omega (arith, lt))
