-- The objects of a class with all below it are exactly those of its interval, and no two objects have one number.
use Rattle.std.proofs.Common.{◌≡◌, ◌⊎◌, refl, sym, ap, ◌∙◌, arith, ℕ, suc, ◌+◌, ◌<◌, ◌≤◌, List, [], ◌∷◌, ◌++◌}
use mathlib.Core.Logic.{inl, inr}
use Rattle.vg_numbers.specs.Keys.{Where, Earlier, Inside, Later, place, class_key, Object, key, is_earlier, is_inside, before, inside}
use Rattle.vg_numbers.proofs.Places.{Heads, heads, clash, earlier_than, earlier_than_inside, earlier_than_class, earlier_than_later, itself, same_head}

-- ---- counting

pub data Among (o : Object) : List Object → Type 0 where
  here : {os : List Object} → Among o (o ∷ os)
  there : {u : Object} {os : List Object} → Among o os → Among o (u ∷ os)

abbrev pub total : (Object → ℕ) → List Object → ℕ
total f [] = 0
total f (o ∷ os) = f o + total f os

total_most : (f g : Object → ℕ) → ((o : Object) → f o ≤ g o) → (os : List Object) → total f os ≤ total g os
total_most f g h [] = omega arith
total_most f g h (o ∷ os) = let a = h o in let b = total_most f g h os in omega (arith, a, b)

pub total_less : (f g : Object → ℕ) → ((o : Object) → f o ≤ g o) → (k : Object) (os : List Object) → Among k os → f k < g k → total f os < total g os
total_less f g h k _ (here {os = os}) lt = let b = total_most f g h os in omega (arith, lt, b)
total_less f g h k _ (there {u = u} {os = os} m) lt = let a = h u in let b = total_less f g h k os m lt in omega (arith, a, b)

pub earlier_total : (os : List Object) (k : List ℕ) → before os k ≡ total (λ o. is_earlier (place k (key o))) os
earlier_total [] k = refl
earlier_total (o ∷ os) k = ap (λ z. is_earlier (place k (key o)) + z) (earlier_total os k)

both_total : (os : List Object) (k : List ℕ) → before os k + inside os k ≡ total (λ o. is_earlier (place k (key o)) + is_inside (place k (key o))) os
both_total [] k = refl
both_total (o ∷ os) k = let a = both_total os k in omega (arith, a)

at_most_one : (w : Where) → is_earlier w + is_inside w ≤ 1
at_most_one Earlier = omega arith
at_most_one Inside = omega arith
at_most_one Later = omega arith

-- the tests, compared through what they say
if_earlier : (w v : Where) → (w ≡ Earlier → v ≡ Earlier) → is_earlier w ≤ is_earlier v
if_earlier Earlier v h = let z = ap is_earlier (h refl) in omega (arith, z)
if_earlier Inside v h = omega arith
if_earlier Later v h = omega arith

if_either : (w v : Where) → (w ≡ Earlier → (v ≡ Earlier) ⊎ (v ≡ Inside)) → is_earlier w ≤ is_earlier v + is_inside v
if_either Inside v h = omega arith
if_either Later v h = omega arith
if_either Earlier v h = by (h refl)
  where
    by : (v ≡ Earlier) ⊎ (v ≡ Inside) → 1 ≤ is_earlier v + is_inside v
    by (inl e) = let z = ap is_earlier e in omega (arith, z)
    by (inr e) = let z = ap is_inside e in omega (arith, z)

from_either : (w v : Where) → (((w ≡ Later) → ⊥) → v ≡ Earlier) → is_earlier w + is_inside w ≤ is_earlier v
from_either Later v h = omega arith
from_either Earlier v h = let z = ap is_earlier (h (λ e. clash Earlier Earlier Later refl e (λ z. omega (arith, z)))) in omega (arith, z)
from_either Inside v h = let z = ap is_earlier (h (λ e. clash Inside Inside Later refl e (λ z. omega (arith, z)))) in omega (arith, z)

-- ---- the intervals

module _ (os : List Object) (way : List ℕ) (k : Object) (m : Among k os) where
  -- an object of the class or below it is within the interval
  pub within : place (class_key way) (key k) ≡ Inside → (1 + before os (class_key way) ≤ 1 + before os (key k))
      × (1 + before os (key k) < 1 + before os (class_key way) + inside os (class_key way))
  within e = (low, high)
    where
      low : 1 + before os (class_key way) ≤ 1 + before os (key k)
      low = let a = total_most (λ o. is_earlier (place (class_key way) (key o))) (λ o. is_earlier (place (key k) (key o)))
          (λ o. if_earlier (place (class_key way) (key o)) (place (key k) (key o)) (earlier_than_class (class_key way) (key k) (key o) e)) os in
          let b = earlier_total os (class_key way) in let c = earlier_total os (key k) in omega (arith, a, b, c)

      high : 1 + before os (key k) < 1 + before os (class_key way) + inside os (class_key way)
      high = let a = total_less (λ o. is_earlier (place (key k) (key o)))
          (λ o. is_earlier (place (class_key way) (key o)) + is_inside (place (class_key way) (key o)))
          (λ o. if_either (place (key k) (key o)) (place (class_key way) (key o)) (earlier_than_inside (class_key way) (key k) (key o) e)) k os m
          (let x = ap is_earlier (itself (key k)) in let y = ap is_inside e in omega (arith, x, y)) in
          let b = both_total os (class_key way) in let c = earlier_total os (key k) in omega (arith, a, b, c)

  -- every other is outside
  pub below_first : place (class_key way) (key k) ≡ Earlier → 1 + before os (key k) < 1 + before os (class_key way)
  below_first e =
      let a = total_less (λ o. is_earlier (place (key k) (key o))) (λ o. is_earlier (place (class_key way) (key o)))
      (λ o. if_earlier (place (key k) (key o)) (place (class_key way) (key o)) (earlier_than (class_key way) (key k) (key o) e)) k os m
      (let x = ap is_earlier (itself (key k)) in let y = ap is_earlier e in omega (arith, x, y)) in
      let b = earlier_total os (class_key way) in let c = earlier_total os (key k) in omega (arith, a, b, c)

  pub behind_last : place (class_key way) (key k) ≡ Later → 1 + before os (class_key way) + inside os (class_key way) ≤ 1 + before os (key k)
  behind_last e =
      let a = total_most (λ o. is_earlier (place (class_key way) (key o)) + is_inside (place (class_key way) (key o))) (λ o. is_earlier (place (key k) (key o)))
      (λ o. from_either (place (class_key way) (key o)) (place (key k) (key o)) (earlier_than_later (class_key way) (key k) (key o) e)) os in
      let b = both_total os (class_key way) in let c = earlier_total os (key k) in omega (arith, a, b, c)

-- ---- one number, one object

-- of two keys neither begins with the other, unless they are of one cell
one_key : (p q : List ℕ) (a b : ℕ) → place (class_key p ++ 0 ∷ a ∷ []) (class_key q ++ 0 ∷ b ∷ []) ≡ Inside → a ≡ b
one_key [] [] a b e = by (heads b a [] []) (sym (same_head 0 0 (a ∷ []) (b ∷ []) refl) ∙ e)
  where
    by : Heads b a (place (a ∷ []) (b ∷ [])) Inside → place (a ∷ []) (b ∷ []) ≡ Inside → a ≡ b
    by (inl (l, f)) g = absurd (clash _ Earlier Inside f g (λ z. omega (arith, z)))
    by (inr (inl (l, f))) g = absurd (clash _ Later Inside f g (λ z. omega (arith, z)))
    by (inr (inr (l, f))) g = sym l
one_key [] (y ∷ ys) a b e = by (heads (suc y) 0 (a ∷ []) (class_key ys ++ 0 ∷ b ∷ []))
  where
    by : Heads (suc y) 0 (place (0 ∷ a ∷ []) (suc y ∷ class_key ys ++ 0 ∷ b ∷ [])) (place (a ∷ []) (class_key ys ++ 0 ∷ b ∷ [])) → a ≡ b
    by (inl (l, f)) = absurd (omega (arith, l))
    by (inr (inl (l, f))) = absurd (clash _ Later Inside f e (λ z. omega (arith, z)))
    by (inr (inr (l, f))) = absurd (omega (arith, l))
one_key (x ∷ xs) [] a b e = by (heads 0 (suc x) (class_key xs ++ 0 ∷ a ∷ []) (b ∷ []))
  where
    by : Heads 0 (suc x) (place (suc x ∷ class_key xs ++ 0 ∷ a ∷ []) (0 ∷ b ∷ [])) (place (class_key xs ++ 0 ∷ a ∷ []) (b ∷ [])) → a ≡ b
    by (inl (l, f)) = absurd (clash _ Earlier Inside f e (λ z. omega (arith, z)))
    by (inr (inl (l, f))) = absurd (omega (arith, l))
    by (inr (inr (l, f))) = absurd (omega (arith, l))
one_key (x ∷ xs) (y ∷ ys) a b e = by (heads (suc y) (suc x) (class_key xs ++ 0 ∷ a ∷ []) (class_key ys ++ 0 ∷ b ∷ [])) (one_key xs ys a b)
  where
    by : Heads (suc y) (suc x) (place (suc x ∷ class_key xs ++ 0 ∷ a ∷ []) (suc y ∷ class_key ys ++ 0 ∷ b ∷ []))
        (place (class_key xs ++ 0 ∷ a ∷ []) (class_key ys ++ 0 ∷ b ∷ []))
        → (place (class_key xs ++ 0 ∷ a ∷ []) (class_key ys ++ 0 ∷ b ∷ []) ≡ Inside → a ≡ b) → a ≡ b
    by (inl (l, f)) h = absurd (clash _ Earlier Inside f e (λ z. omega (arith, z)))
    by (inr (inl (l, f))) h = absurd (clash _ Later Inside f e (λ z. omega (arith, z)))
    by (inr (inr (l, f))) h = h (sym f ∙ e)

less_number : (os : List Object) (j k : Object) → Among j os → place (key k) (key j) ≡ Earlier → 1 + before os (key j) < 1 + before os (key k)
less_number os j k m e =
    let a = total_less (λ o. is_earlier (place (key j) (key o))) (λ o. is_earlier (place (key k) (key o)))
    (λ o. if_earlier (place (key j) (key o)) (place (key k) (key o)) (earlier_than (key k) (key j) (key o) e)) j os m
    (let x = ap is_earlier (itself (key j)) in let y = ap is_earlier e in omega (arith, x, y)) in
    let b = earlier_total os (key j) in let c = earlier_total os (key k) in omega (arith, a, b, c)

pub one_number : (os : List Object) (j k : Object) → Among j os → Among k os → 1 + before os (key j) ≡ 1 + before os (key k) → k.cell ≡ j.cell
one_number os j k mj mk e = by (place (key k) (key j)) refl
  where
    by : (w : Where) → place (key k) (key j) ≡ w → k.cell ≡ j.cell
    by Earlier f = let a = less_number os j k mj f in absurd (omega (arith, a, e))
    by Inside f = one_key k.way j.way k.cell j.cell f
    by Later f = let a = less_number os k j mk (earlier_than_later (key k) (key j) (key k) f
        (λ z. clash _ Inside Later (itself (key k)) z (λ y. omega (arith, y)))) in absurd (omega (arith, a, e))
