-- A class is below another exactly where the way down to it goes through the other.
use Rattle.std.proofs.Common.{◌≡◌, ◌⊎◌, refl, sym, ap, subst, ◌∙◌, arith, ℕ, suc, Bool, true, false, ◌==◌, ◌||◌, List, [], ◌∷◌, ◌++◌, append_assoc}
use Rattle.std.proofs.Common.{Option, Some, None, slice_get}
use Rattle.std.proofs.lemmas.Option.{none-some}
use Rattle.std.proofs.lemmas.List.{map-append}
use Rattle.std.specs.Cmp.{unsigned_Decides}
use mathlib.Core.Logic.{inl, inr}
use Rattle.vg_core.specs.declared.program.Class.{Class}
use Rattle.vg_core.specs.declared.program.Tables.{Tables}
use Rattle.vg_core.specs.State.{onto}
use Rattle.vg_core.specs.Tables.{is_in, above_in, is_below, last_of, top, both_same, one_hierarchy}
use Rattle.vg_numbers.specs.Keys.{Earlier, Inside, Later, place, class_key, key}
use Rattle.vg_numbers.specs.Numbers.{IsChain, AreChains, way}
use Rattle.vg_numbers.proofs.Places.{Heads, heads, clash, same_head}

eq_refl : (n : ℕ) → (n == n) ≡ true
eq_refl n = grind arith

-- ---- lists

onto_both : (xs ys acc : List ℕ) → onto (xs ++ ys) acc ≡ onto ys (onto xs acc)
onto_both [] ys acc = refl
onto_both (x ∷ xs) ys acc = onto_both xs ys (x ∷ acc)

onto_append : (xs acc more : List ℕ) → onto xs (acc ++ more) ≡ onto xs acc ++ more
onto_append [] acc more = refl
onto_append (x ∷ xs) acc more = onto_append xs (x ∷ acc) more

or_true : (b : Bool) → (b || true) ≡ true
or_true true = refl
or_true false = refl

-- what is in a list is in it the other way round
in_onto : (xs acc : List ℕ) (c : ℕ) → is_in acc c ≡ true → is_in (onto xs acc) c ≡ true
in_onto [] acc c e = e
in_onto (x ∷ xs) acc c e = in_onto xs (x ∷ acc) c (ap (λ z. x == c || z) e ∙ or_true (x == c))

turned_in : (xs acc : List ℕ) (c : ℕ) → is_in xs c ≡ true → is_in (onto xs acc) c ≡ true
turned_in [] acc c e = absurd (let clash1 : false ≡ true = e in cc)
turned_in (x ∷ xs) acc c e = by (x == c) refl e (turned_in xs (x ∷ acc) c)
  where
    by : (b : Bool) → (x == c) ≡ b → (b || is_in xs c) ≡ true → (is_in xs c ≡ true → is_in (onto xs (x ∷ acc)) c ≡ true)
        → is_in (onto xs (x ∷ acc)) c ≡ true
    by true q g h = in_onto xs (x ∷ acc) c (ap (λ z. z || is_in acc c) q)
    by false q g h = h g

-- what is in it the other way round is in it, or in what stands behind
in_turned : (xs acc : List ℕ) (c : ℕ) → is_in (onto xs acc) c ≡ true → (is_in xs c ≡ true) ⊎ (is_in acc c ≡ true)
in_turned [] acc c e = inr e
in_turned (x ∷ xs) acc c e = by (x == c) refl (in_turned xs (x ∷ acc) c e)
  where
    by : (b : Bool) → (x == c) ≡ b → (is_in xs c ≡ true) ⊎ (is_in (x ∷ acc) c ≡ true) → ((x == c || is_in xs c) ≡ true) ⊎ (is_in acc c ≡ true)
    by true q g = inl (ap (λ z. z || is_in xs c) q)
    by false q (inl g) = inl (ap (λ z. z || is_in xs c) q ∙ g)
    by false q (inr g) = inr (sym (ap (λ z. z || is_in acc c) q) ∙ g)

in_front : (xs ys : List ℕ) (c : ℕ) → is_in xs c ≡ true → is_in (xs ++ ys) c ≡ true
in_front [] ys c e = absurd (let clash1 : false ≡ true = e in cc)
in_front (x ∷ xs) ys c e = by (x == c) e (in_front xs ys c)
  where
    by : (b : Bool) → (b || is_in xs c) ≡ true → (is_in xs c ≡ true → is_in (xs ++ ys) c ≡ true) → (b || is_in (xs ++ ys) c) ≡ true
    by true g h = refl
    by false g h = h g

-- ---- keys

-- what begins with a list stands inside it
begins_inside : (xs ys : List ℕ) → place xs (xs ++ ys) ≡ Inside
begins_inside [] ys = refl
begins_inside (x ∷ xs) ys = same_head x x xs (xs ++ ys) refl ∙ begins_inside xs ys

-- the way to an object's class goes through a class whose key it stands inside
inside_begins : (xs ys : List ℕ) (j : ℕ) → place (class_key xs) (class_key ys ++ 0 ∷ j ∷ []) ≡ Inside → (more : List ℕ) × (ys ≡ xs ++ more)
inside_begins [] ys j e = (ys, refl)
inside_begins (x ∷ xs) [] j e = by (heads 0 (suc x) (class_key xs) (j ∷ []))
  where
    by : Heads 0 (suc x) (place (suc x ∷ class_key xs) (0 ∷ j ∷ [])) (place (class_key xs) (j ∷ [])) → (more : List ℕ) × ([] ≡ x ∷ xs ++ more)
    by (inl (l, f)) = absurd (clash _ Earlier Inside f e (λ z. omega (arith, z)))
    by (inr (inl (l, f))) = absurd (omega (arith, l))
    by (inr (inr (l, f))) = absurd (omega (arith, l))
inside_begins (x ∷ xs) (y ∷ ys) j e =
    by (heads (suc y) (suc x) (class_key xs) (class_key ys ++ 0 ∷ j ∷ [])) (inside_begins xs ys j)
  where
    by : Heads (suc y) (suc x) (place (suc x ∷ class_key xs) (suc y ∷ class_key ys ++ 0 ∷ j ∷ [])) (place (class_key xs) (class_key ys ++ 0 ∷ j ∷ []))
        → (place (class_key xs) (class_key ys ++ 0 ∷ j ∷ []) ≡ Inside → (more : List ℕ) × (ys ≡ xs ++ more))
        → (more : List ℕ) × (y ∷ ys ≡ x ∷ xs ++ more)
    by (inl (l, f)) h = absurd (clash _ Earlier Inside f e (λ z. omega (arith, z)))
    by (inr (inl (l, f))) h = absurd (clash _ Later Inside f e (λ z. omega (arith, z)))
    by (inr (inr (l, f))) h =
        let r = h (sym f ∙ e) in let xy : y ≡ x = omega (arith, l) in (r.0, ap (λ z. z ∷ ys) xy ∙ ap (λ z. x ∷ z) r.1)

-- ---- classes

-- two that are the same are the same
pub both_same_is : (a b : Option ℕ) → both_same a b ≡ true → a ≡ b
both_same_is (Some m) (Some n) e = ap Some ((unsigned_Decides m n).0 e)
both_same_is (Some m) None e = absurd (let clash1 : false ≡ true = e in cc)
both_same_is None (Some n) e = absurd (let clash1 : false ≡ true = e in cc)
both_same_is None None e = absurd (let clash1 : false ≡ true = e in cc)

module _ (p : Tables) (chains : AreChains p) where
  -- what is above a class begins with what is above it to a class, and goes on with that class and what is above it
  above_through : (cs : List ℕ) (d : ℕ) (k : Class) → slice_get p.classes d ≡ Some k → k.above ≡ cs → (c : ℕ) → is_in cs c ≡ true
      → (front : List ℕ) × (cs ≡ front ++ above_in (slice_get p.classes c))
  above_through [] d k ek ec c e = absurd (let clash1 : false ≡ true = e in cc)
  above_through (a ∷ cs) d k ek ec c e = by (chains d k ek) (a == c) refl e (above_through cs)
    where
      itself1 : a ≡ c → IsChain p d k.above → (front : List ℕ) × (a ∷ cs ≡ front ++ above_in (slice_get p.classes c))
      itself1 ac ch = ([], sym ec ∙ sym (ap above_in (subst (λ z. slice_get p.classes z ≡ Some k) (da ch ∙ ac) ek)))
        where
          head_of : (x y : ℕ) (xs ys : List ℕ) → x ∷ xs ≡ y ∷ ys → x ≡ y
          head_of x y xs ys q = cc

          da : IsChain p d k.above → d ≡ a
          da (inl q) = head_of d a [] cs (sym q ∙ ec)
          da (inr (d1, s, es, q)) = head_of d a s.above cs (sym q ∙ ec)

      tail_of : (x y : ℕ) (xs ys : List ℕ) → x ∷ xs ≡ y ∷ ys → xs ≡ ys
      tail_of x y xs ys q = cc

      further : IsChain p d k.above → is_in cs c ≡ true
          → ((d1 : ℕ) (k1 : Class) → slice_get p.classes d1 ≡ Some k1 → k1.above ≡ cs → (c1 : ℕ) → is_in cs c1 ≡ true
          → (front : List ℕ) × (cs ≡ front ++ above_in (slice_get p.classes c1)))
          → (front : List ℕ) × (a ∷ cs ≡ front ++ above_in (slice_get p.classes c))
      further (inl q) g again = absurd (none (tail_of d a [] cs (sym q ∙ ec)))
        where
          none : [] ≡ cs → ⊥
          none z = let w : is_in [] c ≡ true = subst (λ v. is_in v c ≡ true) (sym z) g in let clash1 : false ≡ true = w in cc
      further (inr (d1, s, es, q)) g again =
          let r = again d1 s es (tail_of d a s.above cs (sym q ∙ ec)) c g in (a ∷ r.0, ap (λ z. a ∷ z) r.1)

      by : IsChain p d k.above → (b : Bool) → (a == c) ≡ b → (b || is_in cs c) ≡ true
          → ((d1 : ℕ) (k1 : Class) → slice_get p.classes d1 ≡ Some k1 → k1.above ≡ cs → (c1 : ℕ) → is_in cs c1 ≡ true
          → (front : List ℕ) × (cs ≡ front ++ above_in (slice_get p.classes c1)))
          → (front : List ℕ) × (a ∷ cs ≡ front ++ above_in (slice_get p.classes c))
      by ch true q g again = itself1 ((unsigned_Decides a c).0 q) ch
      by ch false q g again = further ch g again

  -- the way to a class goes through those above it
  way_through : (d c : ℕ) → is_below p d c ≡ true → (more : List ℕ) × (way p d ≡ way p c ++ more)
  way_through d c e = by (slice_get p.classes d) refl e
    where
      turned : (front above : List ℕ) → onto (front ++ above) [] ≡ onto above [] ++ onto front []
      turned front above = onto_both front above [] ∙ onto_append above [] (onto front [])

      by : (o : Option Class) → slice_get p.classes d ≡ o → is_in (above_in o) c ≡ true → (more : List ℕ) × (onto (above_in o) [] ≡ way p c ++ more)
      by None q g = absurd (let clash1 : false ≡ true = g in cc)
      by (Some k) q g =
          let r = above_through k.above d k q refl c g in
          (onto r.0 [], ap (λ z. onto z []) r.1 ∙ turned r.0 (above_in (slice_get p.classes c)))

  -- an object of a class or below it stands inside the class
  pub below_inside : (d c j : ℕ) → is_below p d c ≡ true → place (class_key (way p c)) (key (record { way = way p d; cell = j })) ≡ Inside
  below_inside d c j e =
      let r = way_through d c e in
      subst (λ z. place (class_key (way p c)) z ≡ Inside)
      (sym (ap (λ z. class_key z ++ 0 ∷ j ∷ []) r.1
      ∙ (ap (λ z. z ++ 0 ∷ j ∷ []) (map-append suc (way p c) r.0) ∙ append_assoc (class_key (way p c)) (class_key r.0) (0 ∷ j ∷ []))))
      (begins_inside (class_key (way p c)) (class_key r.0 ++ 0 ∷ j ∷ []))

  -- a class that is there is in its own way
  in_way : (c : ℕ) (k : Class) → slice_get p.classes c ≡ Some k → is_in (way p c) c ≡ true
  in_way c k ek = subst (λ z. is_in (onto (above_in z) []) c ≡ true) (sym ek) (turned_in k.above [] c (by (chains c k ek)))
    where
      by : IsChain p c k.above → is_in k.above c ≡ true
      by (inl q) = ap (λ z. is_in z c) q ∙ ap (λ z. z || false) (eq_refl c)
      by (inr (d, s, es, q)) = ap (λ z. is_in z c) q ∙ ap (λ z. z || is_in s.above c) (eq_refl c)

  -- what stands inside a class of its hierarchy is of the class or below it
  pub inside_below : (d c j : ℕ) → one_hierarchy p d c ≡ true → place (class_key (way p c)) (key (record { way = way p d; cell = j })) ≡ Inside
      → is_below p d c ≡ true
  inside_below d c j one e = by (slice_get p.classes c) refl (both_same_is (top p d) (top p c) one) (inside_begins (way p c) (way p d) j e)
    where
      some_top : (a b : Option ℕ) → both_same a b ≡ true → b ≡ None → ⊥
      some_top (Some m) (Some n) q z = none-some n (sym z)
      some_top (Some m) None q z = let clash1 : false ≡ true = q in cc
      some_top None (Some n) q z = let clash1 : false ≡ true = q in cc
      some_top None None q z = let clash1 : false ≡ true = q in cc

      by : (o : Option Class) → slice_get p.classes c ≡ o → top p d ≡ top p c → (more : List ℕ) × (way p d ≡ way p c ++ more) → is_below p d c ≡ true
      by None q tops r = absurd (some_top (top p d) (top p c) one (ap (λ z. last_of (above_in z)) q))
      by (Some k) q tops (more, w) =
          from (in_turned (above_in (slice_get p.classes d)) [] c
          (subst (λ z. is_in z c ≡ true) (sym w) (in_front (way p c) more c (in_way c k q))))
        where
          from : (is_in (above_in (slice_get p.classes d)) c ≡ true) ⊎ (is_in [] c ≡ true) → is_below p d c ≡ true
          from (inl g) = g
          from (inr g) = absurd (let clash1 : false ≡ true = g in cc)
