-- What becomes of rows of code without pairs, one code at a time.
use Rattle.std.proofs.Common.{◌≡◌, refl, sym, ap, subst, ◌∙◌, arith, ℕ, suc, ◌+◌, ◌<◌, false, List, [], ◌∷◌, ◌++◌, drop, length, get_or, Option, Some, None}
use Rattle.std.proofs.lemmas.List.{drop_all}
use Rattle.vg_meaning.specs.Code.{Code, Nothing, Then, Do, If}
use Rattle.vg_core.specs.declared.types.CoreType.{CoreType}
use Rattle.vg_core.specs.declared.operator.Prefix.{Prefix}
use Rattle.vg_core.specs.declared.step.Step.{Step}
use Rattle.vg_core.specs.declared.step.Step.TheVariants.{Apply}
use Rattle.vg_core.specs.declared.code.Code as held
use Rattle.vg_core.specs.HeldProgram.{code_of, code_row, code_chain}
use Rattle.vg_pairs.specs.Pairs.{prefix_in, behind, paired, unpaired}
use Rattle.vg_pairs.specs.Lists.{arm_then, arms_list, Waiting, codes_list, is_arm}
use Rattle.vg_pairs.proofs.RowLists as rows
use Rattle.vg_pairs.proofs.RowLists.{chain_last}

paired_none : (w : Waiting) (c : Code Step) (rest : Waiting → Code Step) → paired w None c rest ≡ behind w (Then c (rest None))
paired_none None c rest = refl
paired_none (Some p) c rest = refl

-- ---- code behind other code

module _ (list : List held.Code → Code Step → Code Step) (xs new : List held.Code) (c : Code Step) (w this : Waiting) where
  -- the second of two operators
  pub dropped : (n : Code Step) (p q : Prefix × CoreType) → this ≡ Some q → w ≡ Some p → n ≡ Nothing
      → ((z : Code Step) → list new z ≡ list xs (Then n z)) → (rest : Waiting → Code Step) → list new (rest None) ≡ list xs (paired w this c rest)
  dropped n p q et ew en h rest =
      h (rest None) ∙ ap (λ z. list xs (Then z (rest None))) en
      ∙ sym (ap (λ z. list xs (paired z this c rest)) ew ∙ ap (λ z. list xs (paired (Some p) z c rest)) et)

  -- code that is none
  pub stays : (mid : List held.Code) → this ≡ None → ((z : Code Step) → list mid z ≡ list xs (behind w z))
      → ((z : Code Step) → list new z ≡ list mid (Then c z)) → (rest : Waiting → Code Step) → list new (rest None) ≡ list xs (paired w this c rest)
  stays mid et g h rest =
      h (rest None) ∙ g (Then c (rest None)) ∙ sym (ap (λ z. list xs (paired w z c rest)) et ∙ ap (list xs) (paired_none w c rest))

  -- the code in hand, and then the rest
  pub next : (a : Code Step) (o : Waiting) → this ≡ prefix_in a → c ≡ unpaired None a
      → ((rest : Waiting → Code Step) → list new (rest o) ≡ list xs (paired w this c rest)) → (b : Code Step)
      → list new (unpaired o b) ≡ list xs (unpaired w (Then a b))
  next a o et ec h b =
      h (λ v. unpaired v b) ∙ ap (λ z. list xs (paired w z c (λ v. unpaired v b))) et
      ∙ ap (λ z. list xs (paired w (prefix_in a) z (λ v. unpaired v b))) ec

-- ---- arms

module _ (xs new : List held.Code) (c k : Code Step) (w this : Waiting) where
  abbrev Put : Code Step → Type 0
  Put z = arms_list new z ≡ arms_list xs (paired w this c (λ v. behind v (If k z)))

  pub arm_stays : (mid : List held.Code) → this ≡ None → ((z : Code Step) → arms_list mid z ≡ arms_list xs (behind w z))
      → ((z : Code Step) → arms_list new z ≡ arms_list mid (Then c (If k z))) → (z : Code Step) → Put z
  arm_stays mid et g h z =
      h z ∙ g (Then c (If k z))
      ∙ sym (ap (λ y. arms_list xs (paired w y c (λ v. behind v (If k z)))) et ∙ ap (arms_list xs) (paired_none w c (λ v. behind v (If k z))))

  pub arm_waits : (d : Code Step) (op : Prefix) (t : CoreType) → this ≡ Some (op, t) → w ≡ None → d ≡ Do (Apply op t)
      → ((z : Code Step) → arms_list new z ≡ arms_list xs (Then d (If k z))) → (z : Code Step) → Put z
  arm_waits d op t et ew ed h z =
      h z ∙ ap (λ y. arms_list xs (Then y (If k z))) ed
      ∙ sym (ap (λ y. arms_list xs (paired y this c (λ v. behind v (If k z)))) ew ∙ ap (λ y. arms_list xs (paired None y c (λ v. behind v (If k z)))) et)

  pub arm_dropped : (d : Code Step) (p q : Prefix × CoreType) → this ≡ Some q → w ≡ Some p → d ≡ Nothing
      → ((z : Code Step) → arms_list new z ≡ arms_list xs (Then d (If k z))) → (z : Code Step) → Put z
  arm_dropped d p q et ew ed h z =
      h z ∙ ap (λ y. arms_list xs (Then y (If k z))) ed
      ∙ sym (ap (λ y. arms_list xs (paired y this c (λ v. behind v (If k z)))) ew
      ∙ ap (λ y. arms_list xs (paired (Some p) y c (λ v. behind v (If k z)))) et)

-- an arm that was looked at
pub arm_is : (a k c k' : Code Step) (this w : Waiting) → this ≡ prefix_in a → c ≡ unpaired None a → k' ≡ unpaired None k → (b : Code Step)
    → paired w this c (λ v. behind v (If k' (unpaired None b))) ≡ unpaired w (Then a (If k b))
arm_is a k c k' this w et ec ek b =
    ap (λ z. paired w z c (λ v. behind v (If k' (unpaired None b)))) et
    ∙ ap (λ z. paired w (prefix_in a) z (λ v. behind v (If k' (unpaired None b)))) ec
    ∙ ap (λ z. paired w (prefix_in a) (unpaired None a) (λ v. behind v (If z (unpaired None b)))) ek

-- code that is no arm
pub plain_is : (a c : Code Step) (this w : Waiting) → this ≡ prefix_in a → c ≡ unpaired None a → (b : Code Step)
    → paired w this c (λ v. unpaired v b) ≡ unpaired w (Then a b)
plain_is a c this w et ec b =
    ap (λ z. paired w z c (λ v. unpaired v b)) et ∙ ap (λ z. paired w (prefix_in a) z (λ v. unpaired v b)) ec

-- ---- loops

module _ (ys : List held.Code) (i : ℕ) (y : held.Code) (is : y ≡ get_or ys i y) (xs new : List held.Code) (w o : Waiting) (whole : Code Step) where
  -- a row
  pub row_step : i < length ys → ((b : Code Step) → codes_list new (unpaired o b) ≡ codes_list xs (unpaired w (Then (code_of y) b)))
      → codes_list xs (unpaired w (code_row (drop i ys))) ≡ whole → codes_list new (unpaired o (code_row (drop (i + 1) ys))) ≡ whole
  row_step lt h g = h (code_row (drop (i + 1) ys)) ∙ sym (ap (λ z. codes_list xs (unpaired w (code_row z))) (rows.rest_at ys i y lt is)) ∙ g

  -- a chain, where another code follows
  pub chain_step : suc i < length ys → ((b : Code Step) → codes_list new (unpaired o b) ≡ codes_list xs (unpaired w (Then (code_of y) b)))
      → codes_list xs (unpaired w (code_chain (drop i ys))) ≡ whole → codes_list new (unpaired o (code_chain (drop (i + 1) ys))) ≡ whole
  chain_step lt h g =
      h (code_chain (drop (i + 1) ys))
      ∙ sym (ap (λ z. codes_list xs (unpaired w z))
      (rows.behind y (drop (i + 1) ys) (subst (λ z. 0 < length (drop z ys)) (rows.one i) (rows.more_left ys i lt))))
      ∙ sym (ap (λ z. codes_list xs (unpaired w (code_chain z))) (rows.rest_at ys i y (omega (arith, lt)) is)) ∙ g

-- the last of a chain
pub chain_end : (ys : List held.Code) (i : ℕ) (y : held.Code) → y ≡ get_or ys i y → suc i ≡ length ys → code_chain (drop i ys) ≡ code_of y
chain_end ys i y is e =
    ap code_chain (rows.rest_at ys i y (omega (arith, e)) is) ∙ ap (λ z. code_chain (y ∷ z)) (drop_all (i + 1) ys (omega (arith, e)))

pub chain_whole : (ys : List held.Code) (y : held.Code) (e i : ℕ) → y ≡ get_or ys e y → suc e ≡ length ys → i ≡ e → (xs new : List held.Code)
    (last : held.Code) (left : Waiting) (whole : Code Step) → new ≡ xs ++ last ∷ [] → code_of last ≡ unpaired left (code_of y)
    → codes_list xs (unpaired left (code_chain (drop i ys))) ≡ whole → code_chain new ≡ whole
chain_whole ys y e i is len same xs new last left whole more ec h =
    ap code_chain more ∙ chain_last xs last ∙ ap (codes_list xs) ec
    ∙ sym (ap (λ z. codes_list xs (unpaired left z)) (ap (λ n. code_chain (drop n ys)) same ∙ chain_end ys e y is len)) ∙ h

-- arms
pub arms_step : (ys : List held.Code) (i : ℕ) (y : held.Code) → y ≡ get_or ys i y → (xs new : List held.Code) (w o first : Waiting) → i < length ys
    → ((b : Code Step) → arms_list new (unpaired o b) ≡ arms_list xs (unpaired w (arm_then y b)))
    → ((rest : Code Step) → arms_list xs (unpaired w (arms_list (drop i ys) rest)) ≡ unpaired first (arms_list ys rest)) → (rest : Code Step)
    → arms_list new (unpaired o (arms_list (drop (i + 1) ys) rest)) ≡ unpaired first (arms_list ys rest)
arms_step ys i y is xs new w o first lt h g rest =
    h (arms_list (drop (i + 1) ys) rest)
    ∙ sym (ap (λ z. arms_list xs (unpaired w (arms_list z rest))) (rows.rest_at ys i y lt is)) ∙ g rest

-- ---- operators

pub no_prefix_chain : (xs : List held.Code) → (length xs ≡ 1 → ⊥) → prefix_in (code_chain xs) ≡ None
no_prefix_chain [] e = refl
no_prefix_chain (x ∷ []) e = absurd (e refl)
no_prefix_chain (x ∷ y ∷ xs) e = refl

pub no_prefix_row : (xs : List held.Code) → prefix_in (code_row xs) ≡ None
no_prefix_row [] = refl
no_prefix_row (x ∷ xs) = refl

pub no_prefix_arms : (xs : List held.Code) (z : Code Step) → (length xs ≡ 0 → ⊥) → prefix_in (arms_list xs z) ≡ None
no_prefix_arms [] z e = absurd (e refl)
no_prefix_arms (x ∷ xs) z e = by x
  where
    by : (x : held.Code) → prefix_in (arm_then x (arms_list xs z)) ≡ None
    by (held.Arm' p c q b) = refl
    by _ = refl

pub first_prefix : (xs : List held.Code) (z : Code Step) → length xs ≡ 0 → prefix_in (arms_list xs z) ≡ prefix_in z
first_prefix [] z e = refl
first_prefix (x ∷ xs) z e = absurd (omega (arith, e))
