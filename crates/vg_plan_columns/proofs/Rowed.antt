-- The places of arrays, one cell more at a time, and where each stands.
use Rattle.std.proofs.Common.{◌≡◌, ◌⊎◌, refl, sym, ap, subst, ◌∙◌, arith, ℕ, zero, suc, ◌+◌, ◌<◌, ◌==◌, ◌&&◌, Bool, true, false, List, [], ◌∷◌, ◌++◌}
use Rattle.std.proofs.Common.{◌-◌, length, replicate, append_assoc, Some, slice_get, slice_set}
use Rattle.std.proofs.lemmas.Option.{same_Some, none-some}
use Rattle.std.proofs.lemmas.List.{length-set, length-replicate}
use Rattle.std.proofs.lemmas.Bool.Decides.{eqb_tells}
use mathlib.Core.Logic.{inl, inr}
use Rattle.vg_core.specs.Heap.{Kind, ObjectOf, ArrayOf}
use Rattle.vg_firm.specs.declared.step.ArrayPlace.{ArrayPlace}
use Rattle.vg_firm.specs.declared.step.Elements.{Elements}
use Rattle.vg_firm.specs.Meaning.{arrays_of}
use Rattle.vg_numbers.specs.Numbers.{is_array_of, one_if, arrays_before}
use Rattle.vg_pack_code.specs.Plans.{items_in}
use Rattle.vg_placement.specs.Columns.{elements, start_of}
use Rattle.vg_place.specs.Counting.{size_in}
use Rattle.vg_plan_columns.specs.Arrays.{place_at, place_if, array_row, array_noted, put_at, AreRows, FitsIn, FitsPlace, Fit}

row_none : (e : Elements) (t : ℕ) (kept : ℕ → Bool) (at start : ℕ) (κ : List Kind) → array_row e t kept at start κ 0 ≡ []
row_none e t kept at start [] = refl
row_none e t kept at start (a ∷ κ) = refl

-- one cell more puts its place behind the others
row_next : (e : Elements) (t : ℕ) (kept : ℕ → Bool) (at start : ℕ) (κ : List Kind) (i : ℕ) (a : Kind) → slice_get κ i ≡ Some a
    → array_row e t kept at start κ (suc i)
    ≡ array_row e t kept at start κ i ++ place_if (kept (at + i) && is_array_of t a) e (start + start_of kept t at κ i) a
row_next e t kept at start [] i a g = absurd (none-some a g)
row_next e t kept at start (b ∷ κ) zero a g =
    let z : at + 0 ≡ at = omega arith in let y : start + 0 ≡ start = omega arith in
    ap (λ q. place_if (kept at && is_array_of t b) e start b ++ q) (row_none e t kept (suc at) (start + elements (kept at) t b) κ)
    ∙ (append_none (place_if (kept at && is_array_of t b) e start b)
    ∙ (ap (λ q. place_if (kept at && is_array_of t q) e start q) (same_Some b a g)
    ∙ (ap (λ q. place_if (kept q && is_array_of t a) e start a) (sym z)
    ∙ ap (λ q. place_if (kept (at + 0) && is_array_of t a) e q a) (sym y))))
  where
    append_none : (xs : List ArrayPlace) → xs ++ [] ≡ xs
    append_none [] = refl
    append_none (x ∷ xs) = ap (λ q. x ∷ q) (append_none xs)
row_next e t kept at start (b ∷ κ) (suc i) a g =
    let z : suc at + i ≡ at + suc i = omega arith in
    let y : start + elements (kept at) t b + start_of kept t (suc at) κ i ≡ start + (elements (kept at) t b + start_of kept t (suc at) κ i) = omega arith in
    ap (λ q. place_if (kept at && is_array_of t b) e start b ++ q) (row_next e t kept (suc at) (start + elements (kept at) t b) κ i a g)
    ∙ (sym (append_assoc (place_if (kept at && is_array_of t b) e start b) (array_row e t kept (suc at) (start + elements (kept at) t b) κ i) _)
    ∙ (ap (λ q. array_row e t kept at start (b ∷ κ) (suc i) ++ place_if (kept q && is_array_of t a) e (start + elements (kept at) t b + start_of kept t (suc at) κ i) a) z
    ∙ ap (λ q. array_row e t kept at start (b ∷ κ) (suc i) ++ place_if (kept (at + suc i) && is_array_of t a) e q a) y))

row_more : (e : Elements) (t : ℕ) (kept : ℕ → Bool) (κ : List Kind) (i : ℕ) (a : Kind) (b : Bool) → slice_get κ i ≡ Some a → b ≡ kept i
    → array_row e t kept 0 0 κ (i + 1) ≡ array_row e t kept 0 0 κ i ++ place_if (b && is_array_of t a) e (start_of kept t 0 κ i) a
row_more e t kept κ i a b g q =
    let one : i + 1 ≡ suc i = omega arith in let z : 0 + i ≡ i = omega arith in let y : 0 + start_of kept t 0 κ i ≡ start_of kept t 0 κ i = omega arith in
    ap (array_row e t kept 0 0 κ) one
    ∙ (row_next e t kept 0 0 κ i a g
    ∙ (ap (λ w. array_row e t kept 0 0 κ i ++ place_if (w && is_array_of t a) e (0 + start_of kept t 0 κ i) a) (ap kept z ∙ sym q)
    ∙ ap (λ w. array_row e t kept 0 0 κ i ++ place_if (b && is_array_of t a) e w a) y))

-- ---- rows of all types

get_replicate : (count t : ℕ) → t < count → slice_get (replicate {A = List ArrayPlace} count []) t ≡ Some []
get_replicate zero t lt = absurd (omega (arith, lt))
get_replicate (suc count) zero lt = refl
get_replicate (suc count) (suc t) lt = get_replicate count t (omega (arith, lt))

pub rows_first : (κ : List Kind) (kept : ℕ → Bool) (items : List Elements) (count : ℕ) (rows : List (List ArrayPlace)) → count ≡ length items
    → rows ≡ replicate count [] → AreRows κ kept items 0 rows
rows_first κ kept items count rows q e = record {
  types = ap length e ∙ (length-replicate count [] ∙ q);
  each = λ t lt. ap (λ z. slice_get z t) e ∙ (get_replicate count t (omega (arith, q, lt)) ∙ ap (λ z. Some z) (sym (row_none (items_in (slice_get items t)) t kept 0 0 κ)));
}

pub more_none : (rows new whole : List (List ArrayPlace)) (count i : ℕ) (x : List ArrayPlace) → i < count → rows ++ replicate (count - i) [] ≡ whole
    → x ≡ [] → new ≡ rows ++ x ∷ [] → new ++ replicate (count - (i + 1)) [] ≡ whole
more_none rows new whole count i x lt h ex en =
    let e : count - i ≡ suc (count - (i + 1)) = omega (arith, lt) in
    ap (λ z. z ++ replicate (count - (i + 1)) []) (en ∙ ap (λ z. rows ++ z ∷ []) ex)
    ∙ (append_assoc rows ([] ∷ []) (replicate (count - (i + 1)) []) ∙ (ap (λ z. rows ++ replicate z []) (sym e) ∙ h))

get_set : {A : Type 0} (xs : List A) (i : ℕ) (x y : A) → slice_get xs i ≡ Some y → slice_get (slice_set xs i x) i ≡ Some x
get_set [] i x y e = absurd (none-some y e)
get_set (z ∷ xs) zero x y e = refl
get_set (z ∷ xs) (suc i) x y e = get_set xs i x y e

get_other : {A : Type 0} (xs : List A) (i j : ℕ) (x : A) → ((i ≡ j) → ⊥) → slice_get (slice_set xs i x) j ≡ slice_get xs j
get_other [] i j x ne = refl
get_other (z ∷ xs) zero zero x ne = absurd (ne refl)
get_other (z ∷ xs) zero (suc j) x ne = refl
get_other (z ∷ xs) (suc i) zero x ne = refl
get_other (z ∷ xs) (suc i) (suc j) x ne = get_other xs i j x (λ q. ne (ap suc q))

append_none : {A : Type 0} (xs : List A) → xs ++ [] ≡ xs
append_none [] = refl
append_none (x ∷ xs) = ap (λ q. x ∷ q) (append_none xs)

module _ (κ : List Kind) (kept : ℕ → Bool) (items : List Elements) (n : ℕ) (rows new : List (List ArrayPlace)) (h : AreRows κ kept items n rows) where
  -- a cell that is no kept array
  pass : (a : Kind) (b : Bool) → slice_get κ n ≡ Some a → b ≡ kept n → ((t : ℕ) → (b && is_array_of t a) ≡ false) → new ≡ rows → AreRows κ kept items (n + 1) new
  pass a b e q not_one is = record {
    types = ap length is ∙ h.types;
    each = λ t lt. ap (λ z. slice_get z t) is ∙ (h.each t lt ∙ ap (λ z. Some z) (sym (row_more (items_in (slice_get items t)) t kept κ n a b e q
        ∙ (ap (λ z. array_row (items_in (slice_get items t)) t kept 0 0 κ n ++ place_if z (items_in (slice_get items t)) (start_of kept t 0 κ n) a) (not_one t)
        ∙ append_none (array_row (items_in (slice_get items t)) t kept 0 0 κ n)))));
  }

  pub rows_more : (a : Kind) (b : Bool) (start : ℕ) → slice_get κ n ≡ Some a → b ≡ kept n
      → ((t size : ℕ) → slice_get κ n ≡ Some (ArrayOf t size) → start ≡ start_of kept t 0 κ n)
      → new ≡ array_noted items b start a rows → AreRows κ kept items (n + 1) new
  rows_more a false start e q s is = pass a false e q (λ t. refl) is
  rows_more (ObjectOf c) true start e q s is = pass (ObjectOf c) true e q (λ t. refl) is
  rows_more (ArrayOf u size) true start e q s is = record {
    types = ap length is ∙ (length-set rows u _ ∙ h.types);
    each = λ t lt. ap (λ z. slice_get z t) is ∙ step t lt (eqb_tells u t);
  }
    where
      x : ArrayPlace
      x = place_at (items_in (slice_get items u)) start size

      step : (t : ℕ) → t < length items → (((u == t) ≡ true) × (u ≡ t)) ⊎ (((u == t) ≡ false) × ((u ≡ t) → ⊥))
          → slice_get (put_at u x rows) t ≡ Some (array_row (items_in (slice_get items t)) t kept 0 0 κ (n + 1))
      step t lt (inl (b, ut)) =
          subst (λ w. slice_get (put_at u x rows) w ≡ Some (array_row (items_in (slice_get items w)) w kept 0 0 κ (n + 1))) ut at_u
        where
          lu : u < length items
          lu = let w = ut in omega (arith, w, lt)

          same : (u == u) ≡ true
          same = grind arith

          at_u : slice_get (put_at u x rows) u ≡ Some (array_row (items_in (slice_get items u)) u kept 0 0 κ (n + 1))
          at_u =
              get_set rows u (arrays_of (slice_get rows u) ++ x ∷ []) _ (h.each u lu)
              ∙ ap (λ z. Some z) (ap (λ z. arrays_of z ++ x ∷ []) (h.each u lu)
              ∙ (ap (λ z. array_row (items_in (slice_get items u)) u kept 0 0 κ n ++ place_at (items_in (slice_get items u)) z size ∷ []) (s u size e)
              ∙ sym (row_more (items_in (slice_get items u)) u kept κ n (ArrayOf u size) true e q
              ∙ ap (λ z. array_row (items_in (slice_get items u)) u kept 0 0 κ n
              ++ place_if z (items_in (slice_get items u)) (start_of kept u 0 κ n) (ArrayOf u size)) same)))
      step t lt (inr (b, ne)) =
          get_other rows u t (arrays_of (slice_get rows u) ++ x ∷ []) ne
          ∙ (h.each t lt ∙ ap (λ z. Some z) (sym (row_more (items_in (slice_get items t)) t kept κ n (ArrayOf u size) true e q
          ∙ (ap (λ z. array_row (items_in (slice_get items t)) t kept 0 0 κ n ++ place_if z (items_in (slice_get items t)) (start_of kept t 0 κ n) (ArrayOf u size)) b
          ∙ append_none (array_row (items_in (slice_get items t)) t kept 0 0 κ n)))))

pub fits_place : (κ : List Kind) (kept : ℕ → Bool) (items : List Elements) (n : ℕ) (a : Kind) (b : Bool) (start : ℕ) → Fit κ kept items
    → slice_get κ n ≡ Some a → b ≡ kept n → ((t size : ℕ) → slice_get κ n ≡ Some (ArrayOf t size) → start ≡ start_of kept t 0 κ n)
    → FitsPlace items b start a
fits_place κ kept items n a false start fit e q s = tt
fits_place κ kept items n (ObjectOf c) true start fit e q s = tt
fits_place κ kept items n (ArrayOf t size) true start fit e q s =
    let f = fit n t size e (sym q) in (f.0, subst (λ z. FitsIn (items_in (slice_get items t)) z) (sym (s t size e)) f.1)

-- ---- where an array stands in the row of its type

pub in_row : (e : Elements) (t : ℕ) (kept : ℕ → Bool) (at start : ℕ) (κ : List Kind) (j size n : ℕ) → slice_get κ j ≡ Some (ArrayOf t size)
    → kept (at + j) ≡ true → j < n
    → slice_get (array_row e t kept at start κ n) (arrays_before t kept at κ j) ≡ Some (place_at e (start + start_of kept t at κ j) size)
in_row e t kept at start [] j size n g k lt = absurd (none-some (ArrayOf t size) g)
in_row e t kept at start (a ∷ κ) j size zero g k lt = absurd (omega (arith, lt))
in_row e t kept at start (a ∷ κ) zero size (suc n) g k lt =
    let z : at + 0 ≡ at = omega arith in let y : start + 0 ≡ start = omega arith in
    let same : (kept at && is_array_of t a) ≡ true = both (kept at) (sym (ap kept z) ∙ k) a (same_Some a (ArrayOf t size) g) in
    ap (λ q. slice_get (place_if q e start a ++ array_row e t kept (suc at) (start + elements (kept at) t a) κ n) 0) same
    ∙ (ap (λ q. Some (place_at e start (size_in q))) (same_Some a (ArrayOf t size) g) ∙ ap (λ q. Some (place_at e q size)) (sym y))
  where
    both : (b : Bool) → b ≡ true → (a : Kind) → a ≡ ArrayOf t size → (b && is_array_of t a) ≡ true
    both b q a c = ap (λ w. w && is_array_of t a) q ∙ (ap (is_array_of t) c ∙ reflexive)
      where
        reflexive : (t == t) ≡ true
        reflexive = grind arith
in_row e t kept at start (a ∷ κ) (suc j) size (suc n) g k lt =
    let z : at + suc j ≡ suc at + j = omega arith in
    let y : start + elements (kept at) t a + start_of kept t (suc at) κ j ≡ start + (elements (kept at) t a + start_of kept t (suc at) κ j) = omega arith in
    behind (kept at && is_array_of t a)
    ∙ (in_row e t kept (suc at) (start + elements (kept at) t a) κ j size n g (subst (λ w. kept w ≡ true) z k) (omega (arith, lt)) ∙ ap (λ q. Some (place_at e q size)) y)
  where
    behind : (b : Bool) → slice_get (place_if b e start a ++ array_row e t kept (suc at) (start + elements (kept at) t a) κ n) (one_if b + arrays_before t kept (suc at) κ j)
        ≡ slice_get (array_row e t kept (suc at) (start + elements (kept at) t a) κ n) (arrays_before t kept (suc at) κ j)
    behind true = let w : 1 + arrays_before t kept (suc at) κ j ≡ suc (arrays_before t kept (suc at) κ j) = omega arith in
        ap (slice_get (place_at e start (size_in a) ∷ array_row e t kept (suc at) (start + elements (kept at) t a) κ n)) w
    behind false = let w : 0 + arrays_before t kept (suc at) κ j ≡ arrays_before t kept (suc at) κ j = omega arith in
        ap (slice_get (array_row e t kept (suc at) (start + elements (kept at) t a) κ n)) w
