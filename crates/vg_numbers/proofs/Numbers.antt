-- The numbers of kept cells: intervals, one number for one cell, and how many there are.
use Rattle.std.proofs.Common.{◌≡◌, ◌⊎◌, refl, sym, ap, subst, ◌∙◌, arith, ℕ, zero, suc, ◌+◌, ◌<◌, ◌≤◌, Bool, true, false, ◌==◌, ◌&&◌, nat_le, nat_lt, List}
use Rattle.std.proofs.Common.{[], ◌∷◌}
use Rattle.std.proofs.Common.{length, Option, Some, None, slice_get, if◌then◌else◌}
use Rattle.std.proofs.lemmas.Option.{same_Some, none-some, slice_get_within}
use mathlib.Core.Logic.{inl, inr}
use Rattle.vg_codes.specs.Dispatch.{is_within}
use Rattle.vg_core.specs.declared.program.Tables.{Tables}
use Rattle.vg_core.specs.Heap.{Kind, ObjectOf, ArrayOf}
use Rattle.vg_core.specs.Tables.{is_below, top, both_same, one_hierarchy}
use Rattle.vg_numbers.specs.Keys.{Where, Earlier, Inside, Later, place, class_key, Object, key, is_earlier, before}
use Rattle.vg_numbers.specs.Numbers.{AreChains, way, is_of_hierarchy, way_of, objects, beside, is_array_of, one_if, arrays_before, numbered, number, first}
use Rattle.vg_numbers.specs.Numbers.{count}
use Rattle.vg_numbers.proofs.Places.{clash, itself}
use Rattle.vg_numbers.proofs.Intervals.{Among, here, there, total, total_less, earlier_total, within, below_first, behind_last, one_number}
use Rattle.vg_numbers.proofs.Ways.{both_same_is, below_inside, inside_below}

both : (a b : Bool) → a ≡ true → b ≡ true → (a && b) ≡ true
both true b e f = f
both false b e f = absurd (let clash1 : false ≡ true = e in cc)

-- a kept object is among those of its hierarchy
among : (p : Tables) (t : Option ℕ) (kept : ℕ → Bool) (at : ℕ) (κ : List Kind) (j d : ℕ) → slice_get κ j ≡ Some (ObjectOf d) → kept (at + j) ≡ true
    → both_same (top p d) t ≡ true → Among (record { way = way p d; cell = at + j }) (objects p t kept at κ)
among p t kept at [] j d e ks h = absurd (none-some _ e)
among p t kept at (a ∷ κ) zero d e ks h =
    let z : at + 0 ≡ at = omega arith in
    subst (λ n. Among (record { way = way p d; cell = n }) (objects p t kept at (a ∷ κ))) (sym z)
    (subst (λ b. Among (record { way = way p d; cell = at })
    (if b then record { way = way_of p a; cell = at } ∷ objects p t kept (suc at) κ else objects p t kept (suc at) κ))
    (sym (both (kept at) (is_of_hierarchy p t a) (subst (λ n. kept n ≡ true) z ks) (ap (is_of_hierarchy p t) (same_Some a (ObjectOf d) e) ∙ h)))
    (subst (λ w. Among (record { way = way p d; cell = at }) (record { way = w; cell = at } ∷ objects p t kept (suc at) κ))
    (sym (ap (way_of p) (same_Some a (ObjectOf d) e))) here))
among p t kept at (a ∷ κ) (suc j) d e ks h =
    let z : at + suc j ≡ suc at + j = omega arith in
    subst (λ n. Among (record { way = way p d; cell = n }) (objects p t kept at (a ∷ κ))) (sym z)
    (by (kept at && is_of_hierarchy p t a) (among p t kept (suc at) κ j d e (subst (λ n. kept n ≡ true) z ks) h))
  where
    by : (b : Bool) → Among (record { way = way p d; cell = suc at + j }) (objects p t kept (suc at) κ)
        → Among (record { way = way p d; cell = suc at + j })
        (if b then record { way = way_of p a; cell = at } ∷ objects p t kept (suc at) κ else objects p t kept (suc at) κ)
    by true m = there m
    by false m = m

among_all : (p : Tables) (t : Option ℕ) (κ : List Kind) (kept : ℕ → Bool) (j d : ℕ) → slice_get κ j ≡ Some (ObjectOf d) → kept j ≡ true
    → both_same (top p d) t ≡ true → Among (record { way = way p d; cell = j }) (objects p t kept 0 κ)
among_all p t κ kept j d e ks h =
    let z : 0 + j ≡ j = omega arith in
    subst (λ n. Among (record { way = way p d; cell = n }) (objects p t kept 0 κ)) z
    (among p t kept 0 κ j d e (subst (λ n. kept n ≡ true) (sym z) ks) h)

-- ---- numbers as they are

number_of_object : (p : Tables) (κ : List Kind) (kept : ℕ → Bool) (j d : ℕ) → slice_get κ j ≡ Some (ObjectOf d) → kept j ≡ true
    → number p κ kept j ≡ 1 + before (beside p κ kept d) (key (record { way = way p d; cell = j }))
number_of_object p κ kept j d e ks = ap (λ b. numbered p κ kept j b (slice_get κ j)) ks ∙ ap (numbered p κ kept j true) e

number_of_array : (p : Tables) (κ : List Kind) (kept : ℕ → Bool) (j t n : ℕ) → slice_get κ j ≡ Some (ArrayOf t n) → kept j ≡ true
    → number p κ kept j ≡ 1 + arrays_before t kept 0 κ j
number_of_array p κ kept j t n e ks = ap (λ b. numbered p κ kept j b (slice_get κ j)) ks ∙ ap (numbered p κ kept j true) e

inside_interval : (first count n : ℕ) → first ≤ n → n < first + count → is_within first count n ≡ true
inside_interval first count n low high =
    both (nat_le first n) (nat_lt n (first + count)) (grind (arith, low)) (less n (first + count) high)
  where
    less : (a b : ℕ) → a < b → nat_lt a b ≡ true
    less a b h = grind (arith, h)

below_interval : (first count n : ℕ) → n < first → is_within first count n ≡ false
below_interval first count n low = let e : nat_le first n ≡ false = grind (arith, low) in ap (λ b. b && nat_lt n (first + count)) e

behind_interval : (first count n : ℕ) → first + count ≤ n → is_within first count n ≡ false
behind_interval first count n high = by (nat_le first n) (less n (first + count) high)
  where
    less : (a b : ℕ) → b ≤ a → nat_lt a b ≡ false
    less a b h = grind (arith, h)

    by : (b : Bool) → nat_lt n (first + count) ≡ false → (b && nat_lt n (first + count)) ≡ false
    by true e = e
    by false e = refl

not_true : (b : Bool) → (b ≡ true → ⊥) → b ≡ false
not_true true h = absurd (h refl)
not_true false h = refl

-- ---- intervals

pub spans : (p : Tables) → AreChains p → (κ : List Kind) (kept : ℕ → Bool) (j d c : ℕ) → slice_get κ j ≡ Some (ObjectOf d) → kept j ≡ true
    → one_hierarchy p d c ≡ true → is_below p d c ≡ is_within (first p κ kept c) (count p κ kept c) (number p κ kept j)
spans p chains κ kept j d c e ks one =
    subst (λ n. is_below p d c ≡ is_within (first p κ kept c) (count p κ kept c) n)
    (sym (number_of_object p κ kept j d e ks ∙ ap (λ t. 1 + before (objects p t kept 0 κ) (key (record { way = way p d; cell = j }))) tops))
    (by (place (class_key (way p c)) (key (record { way = way p d; cell = j }))) refl)
  where
    tops : top p d ≡ top p c
    tops = both_same_is (top p d) (top p c) one

    member : Among (record { way = way p d; cell = j }) (beside p κ kept c)
    member = among_all p (top p c) κ kept j d e ks one

    by : (w : Where) → place (class_key (way p c)) (key (record { way = way p d; cell = j })) ≡ w
        → is_below p d c ≡ is_within (first p κ kept c) (count p κ kept c) (1 + before (beside p κ kept c) (key (record { way = way p d; cell = j })))
    by Inside f =
        let r = within (beside p κ kept c) (way p c) (record { way = way p d; cell = j }) member f in
        inside_below p chains d c j one f ∙ sym (inside_interval (first p κ kept c) (count p κ kept c)
        (1 + before (beside p κ kept c) (key (record { way = way p d; cell = j }))) r.0 r.1)
    by Earlier f =
        not_true (is_below p d c) (λ b. clash (place (class_key (way p c)) (key (record { way = way p d; cell = j }))) Inside Earlier
        (below_inside p chains d c j b) f (λ z. omega (arith, z)))
        ∙ sym (below_interval (first p κ kept c) (count p κ kept c) (1 + before (beside p κ kept c) (key (record { way = way p d; cell = j })))
        (below_first (beside p κ kept c) (way p c) (record { way = way p d; cell = j }) member f))
    by Later f =
        not_true (is_below p d c) (λ b. clash (place (class_key (way p c)) (key (record { way = way p d; cell = j }))) Inside Later
        (below_inside p chains d c j b) f (λ z. omega (arith, z)))
        ∙ sym (behind_interval (first p κ kept c) (count p κ kept c) (1 + before (beside p κ kept c) (key (record { way = way p d; cell = j })))
        (behind_last (beside p κ kept c) (way p c) (record { way = way p d; cell = j }) member f))

pub no_null : (p : Tables) (κ : List Kind) (kept : ℕ → Bool) (c : ℕ) → is_within (first p κ kept c) (count p κ kept c) 0 ≡ false
no_null p κ kept c = below_interval (first p κ kept c) (count p κ kept c) 0 (omega arith)

-- ---- one number, one cell

pub one_object : (p : Tables) (κ : List Kind) (kept : ℕ → Bool) (i j d e : ℕ) → slice_get κ i ≡ Some (ObjectOf d) → slice_get κ j ≡ Some (ObjectOf e)
    → kept i ≡ true → kept j ≡ true → one_hierarchy p d e ≡ true → number p κ kept i ≡ number p κ kept j → i ≡ j
one_object p κ kept i j d e ei ej ki kj one same =
    sym (one_number (beside p κ kept e) (record { way = way p d; cell = i }) (record { way = way p e; cell = j })
    (among_all p (top p e) κ kept i d ei ki one) (among_all p (top p e) κ kept j e ej kj (itself_too (top p d) (top p e) one))
    (sym (number_of_object p κ kept i d ei ki ∙ ap (λ t. 1 + before (objects p t kept 0 κ) (key (record { way = way p d; cell = i }))) tops)
    ∙ (same ∙ number_of_object p κ kept j e ej kj)))
  where
    tops : top p d ≡ top p e
    tops = both_same_is (top p d) (top p e) one

    itself_too : (a b : Option ℕ) → both_same a b ≡ true → both_same b b ≡ true
    itself_too a b q = subst (λ z. both_same z b ≡ true) (both_same_is a b q) q

-- more arrays stand before a later array
more_before : (t : ℕ) (kept : ℕ → Bool) (at : ℕ) (κ : List Kind) (i j n m : ℕ) → i < j → slice_get κ i ≡ Some (ArrayOf t n)
    → slice_get κ j ≡ Some (ArrayOf t m) → kept (at + i) ≡ true → arrays_before t kept at κ i < arrays_before t kept at κ j
more_before t kept at [] i j n m lt ei ej ki = absurd (none-some _ ei)
more_before t kept at (a ∷ κ) i zero n m lt ei ej ki = absurd (omega (arith, lt))
more_before t kept at (a ∷ κ) zero (suc j) n m lt ei ej ki =
    let z : at + 0 ≡ at = omega arith in
    subst (λ b. 0 < one_if b + arrays_before t kept (suc at) κ j)
    (sym (both (kept at) (is_array_of t a) (subst (λ x. kept x ≡ true) z ki) (ap (is_array_of t) (same_Some a (ArrayOf t n) ei) ∙ same)))
    (omega arith)
  where
    same : (t == t) ≡ true
    same = grind arith
more_before t kept at (a ∷ κ) (suc i) (suc j) n m lt ei ej ki =
    let z : at + suc i ≡ suc at + i = omega arith in
    let h = more_before t kept (suc at) κ i j n m (omega (arith, lt)) ei ej (subst (λ x. kept x ≡ true) z ki) in
    omega (arith, h)

pub one_array : (p : Tables) (κ : List Kind) (kept : ℕ → Bool) (i j t n m : ℕ) → slice_get κ i ≡ Some (ArrayOf t n) → slice_get κ j ≡ Some (ArrayOf t m)
    → kept i ≡ true → kept j ≡ true → number p κ kept i ≡ number p κ kept j → i ≡ j
one_array p κ kept i j t n m ei ej ki kj same = by (order i j)
  where
    counts : 1 + arrays_before t kept 0 κ i ≡ 1 + arrays_before t kept 0 κ j
    counts = sym (number_of_array p κ kept i t n ei ki) ∙ (same ∙ number_of_array p κ kept j t m ej kj)

    zero_more : (n1 : ℕ) → n1 ≡ 0 + n1
    zero_more n1 = omega arith

    order : (a b : ℕ) → (a ≡ b) ⊎ (a < b) ⊎ (b < a)
    order zero zero = inl refl
    order zero (suc b) = inr (inl (omega arith))
    order (suc a) zero = inr (inr (omega arith))
    order (suc a) (suc b) = more (order a b)
      where
        more : (a ≡ b) ⊎ (a < b) ⊎ (b < a) → (suc a ≡ suc b) ⊎ (suc a < suc b) ⊎ (suc b < suc a)
        more (inl x) = inl (ap suc x)
        more (inr (inl x)) = inr (inl (omega (arith, x)))
        more (inr (inr x)) = inr (inr (omega (arith, x)))

    by : (i ≡ j) ⊎ (i < j) ⊎ (j < i) → i ≡ j
    by (inl e) = e
    by (inr (inl lt)) =
        let h = more_before t kept 0 κ i j n m lt ei ej (subst (λ x. kept x ≡ true) (zero_more i) ki) in absurd (omega (arith, h, counts))
    by (inr (inr lt)) =
        let h = more_before t kept 0 κ j i m n lt ej ei (subst (λ x. kept x ≡ true) (zero_more j) kj) in absurd (omega (arith, h, counts))

-- ---- how many there are

-- fewer than all stand before one of them
fewer : (os : List Object) (o : Object) → Among o os → before os (key o) < length os
fewer os o m =
    subst (λ n. before os (key o) < n) (ones os)
    (subst (λ n. n < total (λ u. 1) os) (sym (earlier_total os (key o)))
    (total_less (λ u. is_earlier (place (key o) (key u))) (λ u. 1) (λ u. at_most_one (place (key o) (key u))) o os m
    (let z = ap is_earlier (itself (key o)) in omega (arith, z))))
  where
    ones : (us : List Object) → total (λ u. 1) us ≡ length us
    ones [] = refl
    ones (u ∷ us) = let h = ones us in omega (arith, h)

    at_most_one : (w : Where) → is_earlier w ≤ 1
    at_most_one Earlier = omega arith
    at_most_one Inside = omega arith
    at_most_one Later = omega arith

no_more_objects : (p : Tables) (t : Option ℕ) (kept : ℕ → Bool) (at : ℕ) (κ : List Kind) → length (objects p t kept at κ) ≤ length κ
no_more_objects p t kept at [] = omega arith
no_more_objects p t kept at (a ∷ κ) = by (kept at && is_of_hierarchy p t a) (no_more_objects p t kept (suc at) κ)
  where
    by : (b : Bool) → length (objects p t kept (suc at) κ) ≤ length κ
        → length (if b then record { way = way_of p a; cell = at } ∷ objects p t kept (suc at) κ else objects p t kept (suc at) κ) ≤ length (a ∷ κ)
    by true h = omega (arith, h)
    by false h = omega (arith, h)

no_more_arrays : (t : ℕ) (kept : ℕ → Bool) (at : ℕ) (κ : List Kind) (j : ℕ) → arrays_before t kept at κ j ≤ j
no_more_arrays t kept at [] j = omega arith
no_more_arrays t kept at (a ∷ κ) zero = omega arith
no_more_arrays t kept at (a ∷ κ) (suc j) =
    let h = no_more_arrays t kept (suc at) κ j in let c = at_most (kept at && is_array_of t a) in omega (arith, h, c)
  where
    at_most : (b : Bool) → one_if b ≤ 1
    at_most true = omega arith
    at_most false = omega arith

one_top : (p : Tables) (d : ℕ) → (both_same (top p d) (top p d) ≡ true) ⊎ (top p d ≡ None)
one_top p d = by (top p d)
  where
    by : (o : Option ℕ) → (both_same o o ≡ true) ⊎ (o ≡ None)
    by (Some n) = inl (let e : (n == n) ≡ true = grind arith in e)
    by None = inr refl

pub few : (p : Tables) (κ : List Kind) (kept : ℕ → Bool) (j : ℕ) → number p κ kept j ≤ length κ
few p κ kept j = by (kept j) refl (slice_get κ j) refl
  where
    by : (b : Bool) → kept j ≡ b → (a : Option Kind) → slice_get κ j ≡ a → numbered p κ kept j b a ≤ length κ
    by false ks a e = omega arith
    by true ks None e = omega arith
    by true ks (Some (ArrayOf t n)) e =
        let lt = slice_get_within κ j (ArrayOf t n) e in let h = no_more_arrays t kept 0 κ j in omega (arith, lt, h)
    by true ks (Some (ObjectOf d)) e = there_is (one_top p d)
      where
        there_is : (both_same (top p d) (top p d) ≡ true) ⊎ (top p d ≡ None)
            → 1 + before (beside p κ kept d) (key (record { way = way p d; cell = j })) ≤ length κ
        there_is (inl h) =
            let a = fewer (beside p κ kept d) (record { way = way p d; cell = j }) (among_all p (top p d) κ kept j d e ks h) in
            let c = no_more_objects p (top p d) kept 0 κ in omega (arith, a, c)
        there_is (inr h) =
            let lt = slice_get_within κ j (ObjectOf d) e in
            subst (λ t. 1 + before (objects p t kept 0 κ) (key (record { way = way p d; cell = j })) ≤ length κ) (sym h)
            (let z = nothing 0 κ in omega (arith, lt, z))
          where
            nothing : (at : ℕ) (κ1 : List Kind) → before (objects p None kept at κ1) (key (record { way = way p d; cell = j })) ≡ 0
            nothing at [] = refl
            nothing at (a ∷ κ1) = none (kept at && is_of_hierarchy p None a) (not_there (kept at) a) (nothing (suc at) κ1)
              where
                not_there : (b : Bool) (a1 : Kind) → (b && is_of_hierarchy p None a1) ≡ false
                not_there true (ObjectOf c) = not_same (top p c)
                  where
                    not_same : (o : Option ℕ) → both_same o None ≡ false
                    not_same (Some n) = refl
                    not_same None = refl
                not_there true (ArrayOf t n) = refl
                not_there false a1 = refl

                none : (b : Bool) → b ≡ false → before (objects p None kept (suc at) κ1) (key (record { way = way p d; cell = j })) ≡ 0
                    → before (if b then record { way = way_of p a; cell = at } ∷ objects p None kept (suc at) κ1 else objects p None kept (suc at) κ1)
                    (key (record { way = way p d; cell = j })) ≡ 0
                none false q h1 = h1
                none true q h1 = absurd (let clash1 : true ≡ false = q in cc)
