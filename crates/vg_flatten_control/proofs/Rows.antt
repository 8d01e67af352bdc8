-- Rows of code as lists.
use Rattle.std.proofs.Common.{◌≡◌, ℕ, suc, ◌+◌, List, [], ◌∷◌, Vec, Box, Global, refl, sym, ap, ◌∙◌}
use Rattle.vg_meaning.specs.Code.{Code, Then, If}
use Rattle.vg_firm.specs.declared.step.Step.{Step}
use Rattle.vg_firm.specs.declared.code.Code as held
use Rattle.vg_firm.specs.declared.code.Code.TheViews as views
use Rattle.vg_firm.specs.Held.{code_of, row_of, arms_of, list_of}
use Rattle.vg_flatten_control.specs.Weights.{weight, row_weight, weights, arm_then, arms_list}

row_is : (n : _) (k : held.Row_of-Code n) → row_of k ≡ list_of (held.items-the_row-Code n k)
row_is _ held.end_of-Code = refl
row_is _ (held.more_of-Code c rest) = ap (Then (code_of c)) (row_is _ rest)

weight_is : (n : _) (k : held.Row_of-Code n) → row_weight k ≡ weights (held.items-the_row-Code n k)
weight_is _ held.end_of-Code = refl
weight_is _ (held.more_of-Code c rest) = ap (λ m. suc (weight c + m)) (weight_is _ rest)

arms_are : (n : _) (k : held.Row_of-Code n) (last : Code Step) → arms_of k last ≡ arms_list (held.items-the_row-Code n k) last
arms_are _ held.end_of-Code last = refl
arms_are _ (held.more_of-Code (held.Arm' p c q b) rest) last = ap (λ z. Then (code_of c) (If (code_of b) z)) (arms_are _ rest last)
arms_are _ (held.more_of-Code (held.Row' s all) rest) last = ap (Then (code_of (held.Row' s all))) (arms_are _ rest last)
arms_are _ (held.more_of-Code (held.Do p) rest) last = ap (Then (code_of (held.Do p))) (arms_are _ rest last)
arms_are _ (held.more_of-Code (held.If' p a q b) rest) last = ap (Then (code_of (held.If' p a q b))) (arms_are _ rest last)
arms_are _ (held.more_of-Code (held.Arms' s all p a) rest) last = ap (Then (code_of (held.Arms' s all p a))) (arms_are _ rest last)
arms_are _ (held.more_of-Code (held.Loop' p a q b r c) rest) last = ap (Then (code_of (held.Loop' p a q b r c))) (arms_are _ rest last)
arms_are _ (held.more_of-Code held.Break rest) last = ap (Then (code_of held.Break)) (arms_are _ rest last)
arms_are _ (held.more_of-Code held.Continue rest) last = ap (Then (code_of held.Continue)) (arms_are _ rest last)
arms_are _ (held.more_of-Code held.Return rest) last = ap (Then (code_of held.Return)) (arms_are _ rest last)

-- the code of a row
pub code_of_row : (v : Vec held.Code Global) → code_of (views.Row v) ≡ list_of v.items
code_of_row v = row_is _ (held.TheBlock.hidden-the_row-Code-0 v) ∙ ap list_of (held.items_hidden-the_row-Code-0 v)

pub weight_of_row : (v : Vec held.Code Global) → weight (views.Row v) ≡ suc (weights v.items)
weight_of_row v = ap suc (weight_is _ (held.TheBlock.hidden-the_row-Code-0 v) ∙ ap weights (held.items_hidden-the_row-Code-0 v))

pub row_same : (n : held.Code) (v : Vec held.Code Global) (s : List held.Code) → n ≡ views.Row v → s ≡ v.items → code_of n ≡ list_of s
row_same n v s e f = ap code_of e ∙ code_of_row v ∙ sym (ap list_of f)

pub row_weighs : (n : held.Code) (v : Vec held.Code Global) (s : List held.Code) → n ≡ views.Row v → s ≡ v.items → weight n ≡ suc (weights s)
row_weighs n v s e f = ap weight e ∙ weight_of_row v ∙ sym (ap (λ z. suc (weights z)) f)

pub code_of_arms : (v : Vec held.Code Global) (b : Box held.Code Global) → code_of (views.Arms v b) ≡ arms_list v.items (code_of b.value)
code_of_arms v b =
    arms_are _ (held.TheBlock.hidden-the_row-Code-0 v) (code_of b.value) ∙ ap (λ z. arms_list z (code_of b.value)) (held.items_hidden-the_row-Code-0 v)

pub weight_of_arms : (v : Vec held.Code Global) (b : Box held.Code Global) → weight (views.Arms v b) ≡ suc (weights v.items + weight b.value)
weight_of_arms v b =
    ap (λ m. suc (m + weight b.value)) (weight_is _ (held.TheBlock.hidden-the_row-Code-0 v) ∙ ap weights (held.items_hidden-the_row-Code-0 v))

pub arms_same : (n : held.Code) (v : Vec held.Code Global) (b : Box held.Code Global) (s : List held.Code) (c : held.Code) → n ≡ views.Arms v b
    → s ≡ v.items → c ≡ b.value → code_of n ≡ arms_list s (code_of c)
arms_same n v b s c e f g = ap code_of e ∙ code_of_arms v b ∙ sym (ap (λ z. arms_list z (code_of b.value)) f) ∙ sym (ap (λ z. arms_list s (code_of z)) g)

pub arms_weigh : (n : held.Code) (v : Vec held.Code Global) (b : Box held.Code Global) (s : List held.Code) (c : held.Code) → n ≡ views.Arms v b
    → s ≡ v.items → c ≡ b.value → weight n ≡ suc (weights s + weight c)
arms_weigh n v b s c e f g =
    ap weight e ∙ weight_of_arms v b ∙ sym (ap (λ z. suc (weights z + weight b.value)) f) ∙ sym (ap (λ z. suc (weights s + weight z)) g)
