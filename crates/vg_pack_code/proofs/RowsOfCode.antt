-- Rows of code as lists, in the typed program and in the packed one.
use Rattle.std.proofs.Common.{◌≡◌, refl, sym, ap, subst, ◌∙◌, arith, ℕ, zero, suc, ◌+◌, ◌<◌, false, List, [], ◌∷◌, ◌++◌}
use Rattle.std.proofs.Common.{drop, length, get_or, Vec, Box, Global, Some, None}
use Rattle.std.proofs.lemmas.List.{drop_more}
use Rattle.vg_meaning.specs.Code.{Code, Nothing, Then, Do, replaced}
use Rattle.vg_core.specs.declared.program.Tables.{Tables}
use Rattle.vg_core.specs.declared.step.Step.{Step}
use Rattle.vg_core.specs.declared.step.Step.TheVariants.{CallValue}
use Rattle.vg_core.specs.declared.code.Code as held
use Rattle.vg_core.specs.declared.code.Code.TheViews as views
use Rattle.vg_core.specs.HeldProgram.{code_of, row_of, chain_of, arms_of, code_row, code_chain}
use Rattle.vg_firm.specs.declared.step.Step.{Step as FirmStep}
use Rattle.vg_firm.specs.declared.step.Step.TheVariants as steps
use Rattle.vg_firm.specs.declared.code.Code as firm
use Rattle.vg_firm.specs.declared.code.Code.TheViews as firm_views
use Rattle.vg_firm.specs.Held as firm_held
use Rattle.vg_number.specs.declared.numbers.Numbers.{Numbers}
use Rattle.vg_packing.specs.Pass.{forgets, call_value}
use Rattle.vg_pack_code.specs.declared.plan.Plan.{Plan}
use Rattle.vg_pack_code.specs.Plans.{delegate_arguments, moved}
use Rattle.vg_pack_code.specs.Lists.{arm_then, arms_list, packed_arm, packed_arms, packed_row, is_arm}

-- ---- of the typed program

row_in_order : (n : _) (k : held.Row_of-Code n) → row_of k ≡ code_row (held.items-the_row-Code n k)
row_in_order _ held.end_of-Code = refl
row_in_order _ (held.more_of-Code c rest) = ap (Then (code_of c)) (row_in_order _ rest)

chain_in_order : (n : _) (k : held.Row_of-Code n) → chain_of k ≡ code_chain (held.items-the_row-Code n k)
chain_in_order _ held.end_of-Code = refl
chain_in_order _ (held.more_of-Code c held.end_of-Code) = refl
chain_in_order _ (held.more_of-Code c (held.more_of-Code d rest)) = ap (Then (code_of c)) (chain_in_order _ (held.more_of-Code d rest))

arms_in_order : (last : Code Step) (n : _) (k : held.Row_of-Code n) → arms_of k last ≡ arms_list (held.items-the_row-Code n k) last
arms_in_order last _ held.end_of-Code = refl
arms_in_order last _ (held.more_of-Code c rest) = by c ∙ ap (arm_then c) (arms_in_order last _ rest)
  where
    by : (c : held.Code) → arms_of (held.more_of-Code c rest) last ≡ arm_then c (arms_of rest last)
    by (held.Arm' p a q b) = refl
    by _ = refl

pub row_same : (n : held.Code) (v : Vec held.Code Global) (s : List held.Code) → n ≡ views.Row v → s ≡ v.items → code_of n ≡ code_row s
row_same n v s e f =
    ap code_of e ∙ row_in_order _ (held.TheBlock.hidden-the_row-Code-0 v) ∙ ap code_row (held.items_hidden-the_row-Code-0 v) ∙ sym (ap code_row f)

pub chain_same : (n : held.Code) (v : Vec held.Code Global) (s : List held.Code) → n ≡ views.Chain v → s ≡ v.items → code_of n ≡ code_chain s
chain_same n v s e f =
    ap code_of e ∙ chain_in_order _ (held.TheBlock.hidden-the_row-Code-0 v) ∙ ap code_chain (held.items_hidden-the_row-Code-0 v) ∙ sym (ap code_chain f)

pub arms_same : (n : held.Code) (v : Vec held.Code Global) (b : Box held.Code Global) (s : List held.Code) (c : held.Code) → n ≡ views.Arms v b
    → s ≡ v.items → c ≡ b.value → code_of n ≡ arms_list s (code_of c)
arms_same n v b s c e f g =
    ap code_of e ∙ arms_in_order (code_of b.value) _ (held.TheBlock.hidden-the_row-Code-0 v)
    ∙ ap (λ z. arms_list z (code_of b.value)) (held.items_hidden-the_row-Code-0 v)
    ∙ sym (ap (λ z. arms_list z (code_of b.value)) f) ∙ sym (ap (λ z. arms_list s (code_of z)) g)

-- ---- of the packed program

firm_row : (n : _) (k : firm.Row_of-Code n) → firm_held.row_of k ≡ packed_row (firm.items-the_row-Code n k) Nothing
firm_row _ firm.end_of-Code = refl
firm_row _ (firm.more_of-Code c rest) = ap (Then (firm_held.code_of c)) (firm_row _ rest)

firm_arms : (last : Code FirmStep) (n : _) (k : firm.Row_of-Code n) → firm_held.arms_of k last ≡ packed_arms (firm.items-the_row-Code n k) last
firm_arms last _ firm.end_of-Code = refl
firm_arms last _ (firm.more_of-Code c rest) = by c ∙ ap (packed_arm c) (firm_arms last _ rest)
  where
    by : (c : firm.Code) → firm_held.arms_of (firm.more_of-Code c rest) last ≡ packed_arm c (firm_held.arms_of rest last)
    by (firm.Arm' p a q b) = refl
    by _ = refl

pub code_of_row : (v : Vec firm.Code Global) → firm_held.code_of (firm_views.Row v) ≡ packed_row v.items Nothing
code_of_row v = firm_row _ (firm.TheBlock.hidden-the_row-Code-0 v) ∙ ap (λ z. packed_row z Nothing) (firm.items_hidden-the_row-Code-0 v)

pub code_of_arms : (v : Vec firm.Code Global) (b : Box firm.Code Global) → firm_held.code_of (firm_views.Arms v b) ≡ packed_arms v.items (firm_held.code_of b.value)
code_of_arms v b =
    firm_arms (firm_held.code_of b.value) _ (firm.TheBlock.hidden-the_row-Code-0 v)
    ∙ ap (λ z. packed_arms z (firm_held.code_of b.value)) (firm.items_hidden-the_row-Code-0 v)

-- ---- one more

pub row_more : (xs : List firm.Code) (c : firm.Code) (z : Code FirmStep) → packed_row (xs ++ c ∷ []) z ≡ packed_row xs (Then (firm_held.code_of c) z)
row_more [] c z = refl
row_more (x ∷ xs) c z = ap (Then (firm_held.code_of x)) (row_more xs c z)

pub arms_more : (xs : List firm.Code) (c : firm.Code) (z : Code FirmStep) → packed_arms (xs ++ c ∷ []) z ≡ packed_arms xs (packed_arm c z)
arms_more [] c z = refl
arms_more (x ∷ xs) c z = ap (packed_arm x) (arms_more xs c z)

no_arm : (c : firm.Code) (z : Code FirmStep) → is_arm c ≡ false → packed_arm c z ≡ Then (firm_held.code_of c) z
no_arm (firm.Arm' p a q b) z e = absurd (grind (arith, e))
no_arm (firm.Row' s all) z e = refl
no_arm (firm.Do s) z e = refl
no_arm (firm.If' p a q b) z e = refl
no_arm (firm.Arms' s all p a) z e = refl
no_arm (firm.Loop' p a q b r c) z e = refl
no_arm firm.Break z e = refl
no_arm firm.Continue z e = refl
no_arm firm.Return z e = refl

-- the rest from a place on begins with what stands there
pub rest_at : (xs : List held.Code) (i : ℕ) (x : held.Code) → i < length xs → x ≡ get_or xs i x → drop i xs ≡ x ∷ drop (i + 1) xs
rest_at xs i x lt is = drop_more xs i x lt ∙ ap (λ z. z ∷ drop (i + 1) xs) (sym is)

pub one : (i : ℕ) → suc i ≡ i + 1
one i = omega arith

pub behind : (y : held.Code) (ys : List held.Code) → 0 < length ys → code_chain (y ∷ ys) ≡ Then (code_of y) (code_chain ys)
behind y [] lt = absurd (omega (arith, lt))
behind y (z ∷ ys) lt = refl

pub more_left : (ys : List held.Code) (i : ℕ) → suc i < length ys → 0 < length (drop (suc i) ys)
more_left [] i lt = absurd (omega (arith, lt))
more_left (y ∷ []) zero lt = absurd (omega (arith, lt))
more_left (y ∷ z ∷ ys) zero lt = omega arith
more_left (y ∷ ys) (suc i) lt = more_left ys i (omega (arith, lt))

module _ (mv : Step → Code FirmStep) (xs new : List firm.Code) (c : firm.Code) (more : new ≡ xs ++ c ∷ []) (ys : List held.Code) (i : ℕ) (y : held.Code)
    (is : y ≡ get_or ys i y) where
  -- a row of which one more code is packed
  pub row_step : (whole : Code FirmStep) → i < length ys → firm_held.code_of c ≡ replaced mv (code_of y)
      → packed_row xs (replaced mv (code_row (drop i ys))) ≡ whole → packed_row new (replaced mv (code_row (drop (i + 1) ys))) ≡ whole
  row_step whole lt e h =
      ap (λ z. packed_row z (replaced mv (code_row (drop (i + 1) ys)))) more ∙ row_more xs c (replaced mv (code_row (drop (i + 1) ys)))
      ∙ ap (λ z. packed_row xs (Then z (replaced mv (code_row (drop (i + 1) ys))))) e
      ∙ sym (ap (λ z. packed_row xs (replaced mv (code_row z))) (rest_at ys i y lt is)) ∙ h

  -- arms of which one more is packed
  pub arms_step : i < length ys → ((rest : Code Step) → packed_arm c (replaced mv rest) ≡ replaced mv (arm_then y rest))
      → ((rest : Code Step) → packed_arms xs (replaced mv (arms_list (drop i ys) rest)) ≡ replaced mv (arms_list ys rest)) → (rest : Code Step)
      → packed_arms new (replaced mv (arms_list (drop (i + 1) ys) rest)) ≡ replaced mv (arms_list ys rest)
  arms_step lt e h rest =
      ap (λ z. packed_arms z (replaced mv (arms_list (drop (i + 1) ys) rest))) more ∙ arms_more xs c (replaced mv (arms_list (drop (i + 1) ys) rest))
      ∙ ap (packed_arms xs) (e (arms_list (drop (i + 1) ys) rest))
      ∙ sym (ap (λ z. packed_arms xs (replaced mv (arms_list z rest))) (rest_at ys i y lt is)) ∙ h rest

  -- a chain of which one more code is packed, and another follows
  pub chain_step : (whole : Code FirmStep) → suc i < length ys → firm_held.code_of c ≡ replaced mv (code_of y) → is_arm c ≡ false
      → packed_arms xs (replaced mv (code_chain (drop i ys))) ≡ whole → packed_arms new (replaced mv (code_chain (drop (i + 1) ys))) ≡ whole
  chain_step whole lt e ne h =
      ap (λ z. packed_arms z (replaced mv (code_chain (drop (i + 1) ys)))) more ∙ arms_more xs c (replaced mv (code_chain (drop (i + 1) ys)))
      ∙ ap (packed_arms xs) (no_arm c (replaced mv (code_chain (drop (i + 1) ys))) ne
      ∙ ap (λ z. Then z (replaced mv (code_chain (drop (i + 1) ys)))) e
      ∙ sym (ap (replaced mv) (behind y (drop (i + 1) ys) (subst (λ z. 0 < length (drop z ys)) (one i) (more_left ys i lt)))))
      ∙ sym (ap (λ z. packed_arms xs (replaced mv (code_chain z))) (rest_at ys i y (omega (arith, lt)) is)) ∙ h

-- arms, and what is done where no condition holds
pub arms_whole : (mv : Step → Code FirmStep) (n : held.Code) (v : Vec held.Code Global) (b : Box held.Code Global) (s : List held.Code) (c : held.Code)
    (rows : List firm.Code) (end : firm.Code) → n ≡ views.Arms v b → s ≡ v.items → c ≡ b.value
    → ((rest : Code Step) → packed_arms rows (replaced mv rest) ≡ replaced mv (arms_list s rest)) → firm_held.code_of end ≡ replaced mv (code_of c)
    → packed_arms rows (firm_held.code_of end) ≡ replaced mv (code_of n)
arms_whole mv n v b s c rows end e f g h i =
    ap (packed_arms rows) i ∙ h (code_of c) ∙ sym (ap (replaced mv) (arms_same n v b s c e f g))

-- ---- a call of null with many arguments

one_more : (i : ℕ) (z : Code FirmStep) → forgets i (Then (Do steps.Forget) z) ≡ forgets (suc i) z
one_more zero z = refl
one_more (suc i) z = ap (Then (Do steps.Forget)) (one_more i z)

-- so many values are dropped, and one more
pub forget_step : (xs new : List firm.Code) (i : ℕ) → new ≡ xs ++ firm.Do steps.Forget ∷ [] → ((z : Code FirmStep) → packed_arms xs z ≡ forgets i z)
    → (z : Code FirmStep) → packed_arms new z ≡ forgets (i + 1) z
forget_step xs new i more h z =
    ap (λ rows. packed_arms rows z) more ∙ arms_more xs (firm.Do steps.Forget) z ∙ h (Then (Do steps.Forget) z) ∙ one_more i z
    ∙ ap (λ n. forgets n z) (one i)

-- a call of a delegate becomes what the pass makes of it
pub delegate_call : (p : Tables) (n : Numbers) (x : Plan) (s : Step) (count : ℕ) → delegate_arguments s ≡ Some count → moved p n x s ≡ call_value count
delegate_call p n x (CallValue at a t) count e = ap call_value (same a count e)
  where
    same : (a b : ℕ) → Some a ≡ Some b → a ≡ b
    same a b e = cc
delegate_call p n x _ count e = absurd (none_some count e)
  where
    none_some : (a : ℕ) → None ≡ Some a → ⊥
    none_some a e = absurd (grind (arith, e))
