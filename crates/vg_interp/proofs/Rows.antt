-- Rows of code as lists, and how much less the parts have.
use Rattle.std.proofs.Common.{◌≡◌, ℕ, zero, suc, ◌+◌, ◌<◌, ◌≤◌, List, [], ◌∷◌, length, get_or, Some, None, Vec, Box, Global, refl, sym, ap, ◌∙◌, arith}
use Rattle.std.specs.Prelude.{slice_get}
use Rattle.std.proofs.lemmas.Option.{slice_get-map}
use Rattle.vg_meaning.specs.Code.{Code, Then, If}
use Rattle.vg_core.specs.declared.step.Step.{Step}
use Rattle.vg_core.specs.declared.code.Code as held
use Rattle.vg_core.specs.declared.code.Code.TheViews as views
use Rattle.vg_core.specs.declared.program.Body.{Body}
use Rattle.vg_core.specs.HeldProgram.{code_of, row_of, chain_of, arms_of, code_row, code_chain}
use Rattle.vg_interp.specs.Weights.{weight, row_weight, weights, bodies_weight, arm_then, arms_list, parts_of}

given_is : (a b : held.Code × held.Code) → Some a ≡ Some b → a ≡ b
given_is a b e = cc

row_is : (n : _) (k : held.Row_of-Code n) → row_of k ≡ code_row (held.items-the_row-Code n k)
row_is _ held.end_of-Code = refl
row_is _ (held.more_of-Code c rest) = ap (Then (code_of c)) (row_is _ rest)

chain_is : (n : _) (k : held.Row_of-Code n) → chain_of k ≡ code_chain (held.items-the_row-Code n k)
chain_is _ held.end_of-Code = refl
chain_is _ (held.more_of-Code c held.end_of-Code) = refl
chain_is _ (held.more_of-Code c (held.more_of-Code d rest)) = ap (Then (code_of c)) (chain_is _ (held.more_of-Code d rest))

weight_is : (n : _) (k : held.Row_of-Code n) → row_weight k ≡ weights (held.items-the_row-Code n k)
weight_is _ held.end_of-Code = refl
weight_is _ (held.more_of-Code c rest) = ap (λ m. suc (weight c + m)) (weight_is _ rest)

arms_are : (n : _) (k : held.Row_of-Code n) (last : Code Step) → arms_of k last ≡ arms_list (held.items-the_row-Code n k) last
arms_are _ held.end_of-Code last = refl
arms_are _ (held.more_of-Code (held.Arm' p c q b) rest) last = ap (λ z. Then (code_of c) (If (code_of b) z)) (arms_are _ rest last)
arms_are _ (held.more_of-Code (held.Row' s all) rest) last = ap (Then (code_of (held.Row' s all))) (arms_are _ rest last)
arms_are _ (held.more_of-Code (held.Chain' s all) rest) last = ap (Then (code_of (held.Chain' s all))) (arms_are _ rest last)
arms_are _ (held.more_of-Code (held.Do p) rest) last = ap (Then (code_of (held.Do p))) (arms_are _ rest last)
arms_are _ (held.more_of-Code (held.If' p a q b) rest) last = ap (Then (code_of (held.If' p a q b))) (arms_are _ rest last)
arms_are _ (held.more_of-Code (held.Arms' s all p a) rest) last = ap (Then (code_of (held.Arms' s all p a))) (arms_are _ rest last)
arms_are _ (held.more_of-Code (held.Loop' p a q b r c) rest) last = ap (Then (code_of (held.Loop' p a q b r c))) (arms_are _ rest last)
arms_are _ (held.more_of-Code held.Break rest) last = ap (Then (code_of held.Break)) (arms_are _ rest last)
arms_are _ (held.more_of-Code held.Continue rest) last = ap (Then (code_of held.Continue)) (arms_are _ rest last)
arms_are _ (held.more_of-Code held.Return rest) last = ap (Then (code_of held.Return)) (arms_are _ rest last)

pub row_same : (n : held.Code) (v : Vec held.Code Global) (s : List held.Code) → n ≡ views.Row v → s ≡ v.items → code_of n ≡ code_row s
row_same n v s e f =
    ap code_of e ∙ row_is _ (held.TheBlock.hidden-the_row-Code-0 v) ∙ ap code_row (held.items_hidden-the_row-Code-0 v) ∙ sym (ap code_row f)

pub row_weighs : (n : held.Code) (v : Vec held.Code Global) (s : List held.Code) → n ≡ views.Row v → s ≡ v.items → weight n ≡ suc (weights s)
row_weighs n v s e f =
    ap weight e ∙ ap suc (weight_is _ (held.TheBlock.hidden-the_row-Code-0 v) ∙ ap weights (held.items_hidden-the_row-Code-0 v))
    ∙ sym (ap (λ z. suc (weights z)) f)

pub chain_same : (n : held.Code) (v : Vec held.Code Global) (s : List held.Code) → n ≡ views.Chain v → s ≡ v.items → code_of n ≡ code_chain s
chain_same n v s e f =
    ap code_of e ∙ chain_is _ (held.TheBlock.hidden-the_row-Code-0 v) ∙ ap code_chain (held.items_hidden-the_row-Code-0 v) ∙ sym (ap code_chain f)

pub chain_weighs : (n : held.Code) (v : Vec held.Code Global) (s : List held.Code) → n ≡ views.Chain v → s ≡ v.items → weight n ≡ suc (weights s)
chain_weighs n v s e f =
    ap weight e ∙ ap suc (weight_is _ (held.TheBlock.hidden-the_row-Code-0 v) ∙ ap weights (held.items_hidden-the_row-Code-0 v))
    ∙ sym (ap (λ z. suc (weights z)) f)

pub arms_same : (n : held.Code) (v : Vec held.Code Global) (b : Box held.Code Global) (s : List held.Code) (c : held.Code) → n ≡ views.Arms v b
    → s ≡ v.items → c ≡ b.value → code_of n ≡ arms_list s (code_of c)
arms_same n v b s c e f g =
    ap code_of e ∙ arms_are _ (held.TheBlock.hidden-the_row-Code-0 v) (code_of b.value)
    ∙ ap (λ z. arms_list z (code_of b.value)) (held.items_hidden-the_row-Code-0 v)
    ∙ sym (ap (λ z. arms_list z (code_of b.value)) f) ∙ sym (ap (λ z. arms_list s (code_of z)) g)

pub arms_weigh : (n : held.Code) (v : Vec held.Code Global) (b : Box held.Code Global) (s : List held.Code) (c : held.Code) → n ≡ views.Arms v b
    → s ≡ v.items → c ≡ b.value → weight n ≡ suc (weights s + weight c)
arms_weigh n v b s c e f g =
    ap weight e ∙ ap (λ m. suc (m + weight b.value)) (weight_is _ (held.TheBlock.hidden-the_row-Code-0 v) ∙ ap weights (held.items_hidden-the_row-Code-0 v))
    ∙ sym (ap (λ z. suc (weights z + weight b.value)) f) ∙ sym (ap (λ z. suc (weights s + weight z)) g)

-- a part has less than its row
pub part_weighs : (xs : List held.Code) (i : ℕ) (x : held.Code) → i < length xs → x ≡ get_or xs i x → weight x < weights xs
part_weighs [] i x lt is = absurd (omega (arith, lt))
part_weighs (y ∷ xs) zero x lt is = let e = ap weight is in omega (arith, e)
part_weighs (y ∷ xs) (suc i) x lt is = let h = part_weighs xs i x (omega (arith, lt)) is in omega (arith, h)

-- what an arm is, and what it has
pub parts_weigh : (x c b : held.Code) → parts_of x ≡ Some (c, b) → weight x ≡ suc (weight c + weight b)
parts_weigh (held.Arm' p d q e) c b is =
    let same = given_is (d, e) (c, b) is in ap (λ y. suc (weight y.0 + weight y.1)) same
parts_weigh (held.Row' s all) c b is = cc
parts_weigh (held.Chain' s all) c b is = cc
parts_weigh (held.Do p) c b is = cc
parts_weigh (held.If' p a q d) c b is = cc
parts_weigh (held.Arms' s all p a) c b is = cc
parts_weigh (held.Loop' p a q d r e) c b is = cc
parts_weigh held.Break c b is = cc
parts_weigh held.Continue c b is = cc
parts_weigh held.Return c b is = cc

pub parts_then : (x c b : held.Code) (rest : Code Step) → parts_of x ≡ Some (c, b) → arm_then x rest ≡ Then (code_of c) (If (code_of b) rest)
parts_then (held.Arm' p d q e) c b rest is =
    let same = given_is (d, e) (c, b) is in ap (λ y. Then (code_of y.0) (If (code_of y.1) rest)) same
parts_then (held.Row' s all) c b rest is = cc
parts_then (held.Chain' s all) c b rest is = cc
parts_then (held.Do p) c b rest is = cc
parts_then (held.If' p a q d) c b rest is = cc
parts_then (held.Arms' s all p a) c b rest is = cc
parts_then (held.Loop' p a q d r e) c b rest is = cc
parts_then held.Break c b rest is = cc
parts_then held.Continue c b rest is = cc
parts_then held.Return c b rest is = cc

-- code that is no arm
pub none_then : (x : held.Code) (rest : Code Step) → parts_of x ≡ None → arm_then x rest ≡ Then (code_of x) rest
none_then (held.Arm' p d q e) rest is = cc
none_then (held.Row' s all) rest is = refl
none_then (held.Chain' s all) rest is = refl
none_then (held.Do p) rest is = refl
none_then (held.If' p a q d) rest is = refl
none_then (held.Arms' s all p a) rest is = refl
none_then (held.Loop' p a q d r e) rest is = refl
none_then held.Break rest is = refl
none_then held.Continue rest is = refl
none_then held.Return rest is = refl

some_is : (a b : Body) → Some a ≡ Some b → a ≡ b
some_is a b e = cc

-- a body has no more than all bodies
pub body_weighs : (bs : List Body) (k : ℕ) (b : Body) → slice_get bs k ≡ Some b → weight b.code ≤ bodies_weight bs
body_weighs [] k b e = cc
body_weighs (x ∷ bs) zero b e = let same = ap (λ y. weight y.code) (some_is x b e) in omega (arith, same)
body_weighs (x ∷ bs) (suc k) b e = let less = body_weighs bs k b e in omega (arith, less)

-- a row has something
pub some_weight : (xs : List held.Code) → 0 < weights xs
some_weight [] = omega arith
some_weight (x ∷ xs) = omega arith

pub ruleset at_bodies = (slice_get-map, body_weighs)

pub ruleset weighing = (row_weighs, chain_weighs, arms_weigh, part_weighs, parts_weigh, some_weight)
