-- The number of an object: the first of its class, and the kept objects of its own class that were made before it.
use Rattle.std.proofs.Common.{◌≡◌, ◌⊎◌, refl, sym, ap, subst, ◌∙◌, arith, ℕ, zero, suc, ◌+◌, ◌≤◌, ◌==◌, ◌&&◌, Bool, true, false, nat_lt, List, [], ◌∷◌, ◌++◌}
use Rattle.std.proofs.Common.{Option, Some, None, slice_get, if◌then◌else◌}
use Rattle.std.proofs.lemmas.Bool.Decides.{eqb_tells}
use mathlib.Core.Logic.{inl, inr}
use Rattle.vg_core.specs.declared.program.Class.{Class}
use Rattle.vg_core.specs.declared.program.Tables.{Tables}
use Rattle.vg_core.specs.Heap.{Kind, ObjectOf, ArrayOf}
use Rattle.vg_core.specs.State.{onto}
use Rattle.vg_core.specs.Tables.{above_in, last_of, top, both_same}
use Rattle.vg_numbers.specs.Keys.{Earlier, Inside, Later, place, class_key, Object, key, is_earlier, before}
use Rattle.vg_numbers.specs.Numbers.{IsChain, AreChains, way, is_of_hierarchy, way_of, objects, one_if, numbered, number, first}
use Rattle.vg_number.specs.Counting.{is_object_of, own_before}

-- ---- keys of objects and of classes

last : (a b : ℕ) → is_earlier (place (a ∷ []) (b ∷ [])) ≡ one_if (nat_lt b a)
last a b = step (nat_lt b a) (nat_lt a b)
  where
    step : (x y : Bool) → is_earlier (if x then Earlier else if y then Later else Inside) ≡ one_if x
    step true y = refl
    step false true = refl
    step false false = refl

abbrev pub same_way : List ℕ → List ℕ → Bool
same_way [] [] = true
same_way (x ∷ xs) (y ∷ ys) = x == y && same_way xs ys
same_way _ _ = false

-- the key of an object against that of another: by their classes, and in one class by when they were made
split : (xs ys : List ℕ) (a b : ℕ) → is_earlier (place (class_key xs ++ 0 ∷ a ∷ []) (class_key ys ++ 0 ∷ b ∷ []))
    ≡ is_earlier (place xs ys) + one_if (same_way xs ys && nat_lt b a)
split [] [] a b = let e = last a b in omega (arith, e)
split [] (y ∷ ys) a b = let u : nat_lt (suc y) 0 ≡ false = grind arith in let v : nat_lt 0 (suc y) ≡ true = grind arith in rw u (rw v refl)
split (x ∷ xs) [] a b = let u : nat_lt 0 (suc x) ≡ true = grind arith in rw u refl
split (x ∷ xs) (y ∷ ys) a b = step (nat_lt y x) refl (nat_lt x y) refl (split xs ys a b)
  where
    step : (u : Bool) → nat_lt y x ≡ u → (v : Bool) → nat_lt x y ≡ v
        → is_earlier (place (class_key xs ++ 0 ∷ a ∷ []) (class_key ys ++ 0 ∷ b ∷ [])) ≡ is_earlier (place xs ys) + one_if (same_way xs ys && nat_lt b a)
        → is_earlier (if nat_lt (suc y) (suc x) then Earlier else if nat_lt (suc x) (suc y) then Later
        else place (class_key xs ++ 0 ∷ a ∷ []) (class_key ys ++ 0 ∷ b ∷ []))
        ≡ is_earlier (if u then Earlier else if v then Later else place xs ys) + one_if ((x == y && same_way xs ys) && nat_lt b a)
    step true e v f h =
        let s : nat_lt (suc y) (suc x) ≡ true = grind (arith, e) in let z : (x == y) ≡ false = grind (arith, e) in rw s (rw z refl)
    step false e true f h =
        let s : nat_lt (suc y) (suc x) ≡ false = grind (arith, e) in let r : nat_lt (suc x) (suc y) ≡ true = grind (arith, f) in
        let z : (x == y) ≡ false = grind (arith, f) in rw s (rw r (rw z refl))
    step false e false f h =
        let s : nat_lt (suc y) (suc x) ≡ false = grind (arith, e) in let r : nat_lt (suc x) (suc y) ≡ false = grind (arith, f) in
        let z : (x == y) ≡ true = grind (arith, e, f) in rw s (rw r (rw z h))

-- an object stands against a class as its class does
pub lifted : (xs ys : List ℕ) (b : ℕ) → place (class_key xs) (class_key ys ++ 0 ∷ b ∷ []) ≡ place xs ys
lifted [] ys b = refl
lifted (x ∷ xs) [] b = let u : nat_lt 0 (suc x) ≡ true = grind arith in rw u refl
lifted (x ∷ xs) (y ∷ ys) b = step (nat_lt y x) refl (nat_lt x y) refl (lifted xs ys b)
  where
    step : (u : Bool) → nat_lt y x ≡ u → (v : Bool) → nat_lt x y ≡ v → place (class_key xs) (class_key ys ++ 0 ∷ b ∷ []) ≡ place xs ys
        → (if nat_lt (suc y) (suc x) then Earlier else if nat_lt (suc x) (suc y) then Later else place (class_key xs) (class_key ys ++ 0 ∷ b ∷ []))
        ≡ (if u then Earlier else if v then Later else place xs ys)
    step true e v f h = let s : nat_lt (suc y) (suc x) ≡ true = grind (arith, e) in rw s refl
    step false e true f h =
        let s : nat_lt (suc y) (suc x) ≡ false = grind (arith, e) in let r : nat_lt (suc x) (suc y) ≡ true = grind (arith, f) in rw s (rw r refl)
    step false e false f h =
        let s : nat_lt (suc y) (suc x) ≡ false = grind (arith, e) in let r : nat_lt (suc x) (suc y) ≡ false = grind (arith, f) in rw s (rw r h)

-- ---- one way, one class

same_way_is : (xs ys : List ℕ) → same_way xs ys ≡ true → xs ≡ ys
same_way_is [] [] e = refl
same_way_is [] (y ∷ ys) e = absurd (let clash : false ≡ true = e in cc)
same_way_is (x ∷ xs) [] e = absurd (let clash : false ≡ true = e in cc)
same_way_is (x ∷ xs) (y ∷ ys) e = step (eqb_tells x y) e (same_way_is xs ys)
  where
    step : (((x == y) ≡ true) × (x ≡ y)) ⊎ (((x == y) ≡ false) × ((x ≡ y) → ⊥)) → (x == y && same_way xs ys) ≡ true
        → (same_way xs ys ≡ true → xs ≡ ys) → x ∷ xs ≡ y ∷ ys
    step (inl (b, q)) h again = ap (λ z. z ∷ xs) q ∙ ap (λ z. y ∷ z) (again (sym (ap (λ z. z && same_way xs ys) b) ∙ h))
    step (inr (b, q)) h again = absurd (let clash : false ≡ true = sym (ap (λ z. z && same_way xs ys) b) ∙ h in cc)

same_way_refl : (xs : List ℕ) → same_way xs xs ≡ true
same_way_refl [] = refl
same_way_refl (x ∷ xs) = let z : (x == x) ≡ true = grind arith in rw z (same_way_refl xs)

-- turned round twice
turned : (xs acc more : List ℕ) → onto (onto xs acc) more ≡ onto acc (xs ++ more)
turned [] acc more = refl
turned (x ∷ xs) acc more = turned xs (x ∷ acc) more

turned_back : (xs : List ℕ) → onto (onto xs []) [] ≡ xs
turned_back xs = turned xs [] [] ∙ nothing_more xs
  where
    nothing_more : (xs : List ℕ) → xs ++ [] ≡ xs
    nothing_more [] = refl
    nothing_more (x ∷ xs) = ap (λ z. x ∷ z) (nothing_more xs)

-- a class is there, where it has a top
class_there : (p : Tables) (d : ℕ) (o : Option ℕ) → both_same (top p d) o ≡ true → (k : Class) × (slice_get p.classes d ≡ Some k)
class_there p d o e = step (slice_get p.classes d) refl e
  where
    step : (c : Option Class) → slice_get p.classes d ≡ c → both_same (last_of (above_in c)) o ≡ true → (k : Class) × (slice_get p.classes d ≡ Some k)
    step None q h = absurd (let clash : false ≡ true = h in cc)
    step (Some k) q h = (k, q)

module _ (p : Tables) (chains : AreChains p) where
  -- a class that is there has a top
  has_top : (c : ℕ) (k : Class) → slice_get p.classes c ≡ Some k → both_same (top p c) (top p c) ≡ true
  has_top c k e = subst (λ z. both_same (last_of (above_in z)) (last_of (above_in z)) ≡ true) (sym e) (step (chains c k e))
    where
      itself : (n : ℕ) → (n == n) ≡ true
      itself n = grind arith

      by_first : (m : ℕ) (ms : List ℕ) → k.above ≡ m ∷ ms → both_same (last_of k.above) (last_of k.above) ≡ true
      by_first m ms q = subst (λ z. both_same (last_of z) (last_of z) ≡ true) (sym q) (itself _)

      step : IsChain p c k.above → both_same (last_of k.above) (last_of k.above) ≡ true
      step (inl q) = by_first c [] q
      step (inr (d, s, es, q)) = by_first c s.above q

  first_above : (c : ℕ) (k : Class) → slice_get p.classes c ≡ Some k → (more : List ℕ) × (k.above ≡ c ∷ more)
  first_above c k e = step (chains c k e)
    where
      step : IsChain p c k.above → (more : List ℕ) × (k.above ≡ c ∷ more)
      step (inl q) = ([], q)
      step (inr (d, s, es, q)) = (s.above, q)

  one_class : (c d : ℕ) (k m : Class) → slice_get p.classes c ≡ Some k → slice_get p.classes d ≡ Some m → way p c ≡ way p d → d ≡ c
  one_class c d k m ek em w = heads d c (first_above d m em).0 (first_above c k ek).0 (sym (first_above d m em).1 ∙ (sym same ∙ (first_above c k ek).1))
    where
      heads : (x y : ℕ) (xs ys : List ℕ) → x ∷ xs ≡ y ∷ ys → x ≡ y
      heads x y xs ys q = cc

      ways : onto k.above [] ≡ onto m.above []
      ways = ap (λ z. onto (above_in z) []) (sym ek) ∙ (w ∙ ap (λ z. onto (above_in z) []) em)

      same : k.above ≡ m.above
      same = sym (turned_back k.above) ∙ (ap (λ z. onto z []) ways ∙ turned_back m.above)

  -- classes that are there are told by their ways
  ways_tell : (c d : ℕ) (k m : Class) → slice_get p.classes c ≡ Some k → slice_get p.classes d ≡ Some m → same_way (way p c) (way p d) ≡ (d == c)
  ways_tell c d k m ek em = step (eqb_tells d c)
    where
      not_true : (b : Bool) → (b ≡ true → ⊥) → b ≡ false
      not_true true h = absurd (h refl)
      not_true false h = refl

      step : (((d == c) ≡ true) × (d ≡ c)) ⊎ (((d == c) ≡ false) × ((d ≡ c) → ⊥)) → same_way (way p c) (way p d) ≡ (d == c)
      step (inl (b, q)) = ap (λ z. same_way (way p c) (way p z)) q ∙ (same_way_refl (way p c) ∙ sym b)
      step (inr (b, q)) =
          not_true (same_way (way p c) (way p d)) (λ z. q (one_class c d k m ek em (same_way_is (way p c) (way p d) z))) ∙ sym b

-- ---- the own objects of a class before a cell

abbrev own_below : (c j : ℕ) → (kept : ℕ → Bool) → (at : ℕ) → List Kind → ℕ
own_below c j kept at [] = 0
own_below c j kept at (a ∷ κ) = one_if (kept at && is_object_of c a && nat_lt at j) + own_below c j kept (suc at) κ

and_false : (a b : Bool) → (a && b && false) ≡ false
and_false true true = refl
and_false true false = refl
and_false false b = refl

and_true : (a b : Bool) → (a && b && true) ≡ (a && b)
and_true true true = refl
and_true true false = refl
and_true false b = refl

none_below : (c j : ℕ) (kept : ℕ → Bool) (at : ℕ) (κ : List Kind) → j ≤ at → own_below c j kept at κ ≡ 0
none_below c j kept at [] le = refl
none_below c j kept at (a ∷ κ) le =
    let z : nat_lt at j ≡ false = grind (arith, le) in
    let n : one_if (kept at && is_object_of c a && nat_lt at j) ≡ 0 =
    ap (λ b. one_if (kept at && is_object_of c a && b)) z ∙ ap one_if (and_false (kept at) (is_object_of c a)) in
    let h = none_below c j kept (suc at) κ (omega (arith, le)) in omega (arith, n, h)

own_is : (c : ℕ) (kept : ℕ → Bool) (at : ℕ) (κ : List Kind) (n : ℕ) → own_below c (at + n) kept at κ ≡ own_before c kept at κ n
own_is c kept at [] n = refl
own_is c kept at (a ∷ κ) zero = none_below c (at + 0) kept at (a ∷ κ) (omega arith)
own_is c kept at (a ∷ κ) (suc n) =
    let z : nat_lt at (at + suc n) ≡ true = grind arith in
    let m : one_if (kept at && is_object_of c a && nat_lt at (at + suc n)) ≡ one_if (kept at && is_object_of c a) =
    ap (λ b. one_if (kept at && is_object_of c a && b)) z ∙ ap one_if (and_true (kept at) (is_object_of c a)) in
    let s : at + suc n ≡ suc at + n = omega arith in
    let h = own_is c kept (suc at) κ n in
    let g : own_below c (at + suc n) kept (suc at) κ ≡ own_before c kept (suc at) κ n = ap (λ i. own_below c i kept (suc at) κ) s ∙ h in
    omega (arith, m, g)

module _ (p : Tables) (chains : AreChains p) (c j : ℕ) (k : Class) (there : slice_get p.classes c ≡ Some k) (kept : ℕ → Bool) where
  -- what one cell adds
  adds : (b : Bool) (a : Kind) (at : ℕ) (rest : List Object) (own : ℕ)
      → before rest (key (record { way = way p c; cell = j })) ≡ before rest (class_key (way p c)) + own
      → before (if b && is_of_hierarchy p (top p c) a then record { way = way_of p a; cell = at } ∷ rest else rest) (key (record { way = way p c; cell = j }))
      ≡ before (if b && is_of_hierarchy p (top p c) a then record { way = way_of p a; cell = at } ∷ rest else rest) (class_key (way p c))
      + (one_if (b && is_object_of c a && nat_lt at j) + own)
  adds false a at rest own h = omega (arith, h)
  adds true (ArrayOf t size) at rest own h = omega (arith, h)
  adds true (ObjectOf d) at rest own h = step (both_same (top p d) (top p c)) refl
    where
      other : both_same (top p d) (top p c) ≡ false → (d == c) ≡ false
      other e = not_same (eqb_tells d c)
        where
          not_same : (((d == c) ≡ true) × (d ≡ c)) ⊎ (((d == c) ≡ false) × ((d ≡ c) → ⊥)) → (d == c) ≡ false
          not_same (inl (b, q)) = absurd (let clash : true ≡ false = sym (has_top p chains c k there)
              ∙ (ap (λ z. both_same (top p z) (top p c)) (sym q) ∙ e) in cc)
          not_same (inr (b, q)) = b

      step : (b : Bool) → both_same (top p d) (top p c) ≡ b
          → before (if b then record { way = way p d; cell = at } ∷ rest else rest) (key (record { way = way p c; cell = j }))
          ≡ before (if b then record { way = way p d; cell = at } ∷ rest else rest) (class_key (way p c)) + (one_if ((d == c) && nat_lt at j) + own)
      step false e = let n : one_if ((d == c) && nat_lt at j) ≡ 0 = ap (λ z. one_if (z && nat_lt at j)) (other e) in omega (arith, h, n)
      step true e =
          let m = class_there p d (top p c) e in
          let s = split (way p c) (way p d) j at in
          let l = ap is_earlier (lifted (way p c) (way p d) at) in
          let w = ap (λ z. one_if (z && nat_lt at j)) (ways_tell p chains c d k m.0 there m.1) in
          omega (arith, h, s, l, w)

  earlier_own : (at : ℕ) (κ : List Kind) → before (objects p (top p c) kept at κ) (key (record { way = way p c; cell = j }))
      ≡ before (objects p (top p c) kept at κ) (class_key (way p c)) + own_below c j kept at κ
  earlier_own at [] = refl
  earlier_own at (a ∷ κ) = adds (kept at) a at (objects p (top p c) kept (suc at) κ) (own_below c j kept (suc at) κ) (earlier_own (suc at) κ)

pub number_own : (p : Tables) → AreChains p → (κ : List Kind) (kept : ℕ → Bool) (j c : ℕ) (k : Class) → slice_get p.classes c ≡ Some k
    → slice_get κ j ≡ Some (ObjectOf c) → kept j ≡ true → number p κ kept j ≡ first p κ kept c + own_before c kept 0 κ j
number_own p chains κ kept j c k there e ks =
    ap (λ b. numbered p κ kept j b (slice_get κ j)) ks ∙ (ap (numbered p κ kept j true) e
    ∙ (let h = earlier_own p chains c j k there kept 0 κ in let z : 0 + j ≡ j = omega arith in
    let o = ap (λ n. own_below c n kept 0 κ) (sym z) ∙ own_is c kept 0 κ j in omega (arith, h, o)))
