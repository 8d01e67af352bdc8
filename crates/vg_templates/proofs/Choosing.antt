-- The cases that are tried choose what all of them do.
use Rattle.std.proofs.Common.{◌≡◌, ℕ, ◌==◌, Bool, true, false, ◌&&◌, ◌||◌, if◌then◌else◌, List, [], ◌∷◌}
use Rattle.std.proofs.Common.{Some, None, refl, sym, ap, ◌∙◌, arith}
use Rattle.vg_codes.specs.declared.case.Case.{Case}
use Rattle.vg_codes.specs.Dispatch.{is_within, procedure_for}
use Rattle.vg_templates.specs.Choices.{are_apart, is_alone, unusual, chosen}

some_same : (x y : ℕ) → Some x ≡ Some y → x ≡ y
some_same x y e = cc

both_true : (a b : Bool) → (a && b) ≡ true → (a ≡ true) × (b ≡ true)
both_true true b h = (refl, h)
both_true false b h = absurd (let clash : false ≡ true = h in cc)

-- each case that has the number has this procedure
abbrev Agreed : (procedure n : ℕ) → List Case → Type 0
Agreed p n [] = Unit {0}
Agreed p n (c ∷ cs) = (is_within c.first c.count n ≡ true → c.procedure ≡ p) × Agreed p n cs

stands : (p n : ℕ) (cs : List Case) → Agreed p n cs → chosen p (unusual p cs) n ≡ p
stands p n [] h = refl
stands p n (c ∷ cs) (here, more) = by_alone (stands p n cs more) ((c.procedure == p) && is_alone p c cs)
  where
    by_within : chosen p (unusual p cs) n ≡ p → (b : Bool) → is_within c.first c.count n ≡ b → (if b then c.procedure else chosen p (unusual p cs) n) ≡ p
    by_within rest true e = here e
    by_within rest false e = rest

    by_alone : chosen p (unusual p cs) n ≡ p → (b : Bool) → chosen p (if b then unusual p cs else c ∷ unusual p cs) n ≡ p
    by_alone rest true = rest
    by_alone rest false = by_within rest (is_within c.first c.count n) refl

not_both : (c d : Case) (n : ℕ) → are_apart c d ≡ true → is_within c.first c.count n ≡ true → is_within d.first d.count n ≡ true → ⊥
not_both c d n apart first second = grind (arith, apart, first, second)

agreed : (p n : ℕ) (c : Case) (ds : List Case) → is_within c.first c.count n ≡ true → is_alone p c ds ≡ true → Agreed p n ds
agreed p n c [] inside h = tt
agreed p n c (d ∷ ds) inside h =
    let both = both_true ((d.procedure == p) || are_apart c d) (is_alone p c ds) h in
    (λ within. other (d.procedure == p) refl both.0 within, agreed p n c ds inside both.1)
  where
    other : (b : Bool) → (d.procedure == p) ≡ b → (b || are_apart c d) ≡ true → is_within d.first d.count n ≡ true → d.procedure ≡ p
    other true e k within = grind (arith, e)
    other false e k within = absurd (not_both c d n k inside within)

-- where the cases have a procedure for a number, those that are tried choose it
pub chosen_is : (p n q : ℕ) (cs : List Case) → procedure_for cs n ≡ Some q → chosen p (unusual p cs) n ≡ q
chosen_is p n q [] e = absurd (let clash : None ≡ Some q = e in cc)
chosen_is p n q (c ∷ cs) e = by_within (chosen_is p n q cs) (is_within c.first c.count n) refl e
  where
    within : is_within c.first c.count n ≡ true → c.procedure ≡ q → (b : Bool) → ((c.procedure == p) && is_alone p c cs) ≡ b
        → chosen p (if b then unusual p cs else c ∷ unusual p cs) n ≡ q
    within inside is true k =
        let both = both_true (c.procedure == p) (is_alone p c cs) k in
        let same : c.procedure ≡ p = (let e1 = both.0 in grind (arith, e1)) in
        stands p n cs (agreed p n c cs inside both.1) ∙ sym same ∙ is
    within inside is false k = ap (λ b. if b then c.procedure else chosen p (unusual p cs) n) inside ∙ is

    beyond : is_within c.first c.count n ≡ false → chosen p (unusual p cs) n ≡ q → (b : Bool)
        → chosen p (if b then unusual p cs else c ∷ unusual p cs) n ≡ q
    beyond outside rest true = rest
    beyond outside rest false = ap (λ b. if b then c.procedure else chosen p (unusual p cs) n) outside ∙ rest

    by_within : (procedure_for cs n ≡ Some q → chosen p (unusual p cs) n ≡ q) → (b : Bool) → is_within c.first c.count n ≡ b
        → (if b then Some c.procedure else procedure_for cs n) ≡ Some q → chosen p (unusual p (c ∷ cs)) n ≡ q
    by_within rest true inside f = within inside (some_same c.procedure q f) ((c.procedure == p) && is_alone p c cs) refl
    by_within rest false outside f = beyond outside (rest f) ((c.procedure == p) && is_alone p c cs)
