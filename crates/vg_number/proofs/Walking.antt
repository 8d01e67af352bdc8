-- A walk over the cells.
use Rattle.std.proofs.Common.{◌≡◌, ◌⊎◌, refl, sym, ap, subst, ◌∙◌, arith, ℕ, zero, suc, ◌+◌, ◌<◌, ◌==◌, ◌&&◌, Bool, true, false, List, [], ◌∷◌, ◌++◌}
use Rattle.std.proofs.Common.{length, map, get_or}
use Rattle.std.proofs.Common.{Some, slice_get, option_map}
use Rattle.std.proofs.lemmas.Option.{same_Some, none-some, slice_get-map, slice_get_read}
use Rattle.std.proofs.lemmas.List.{length-set, length-append, get_or-set_same, get_or-set_other}
use Rattle.std.proofs.lemmas.Bool.Decides.{eqb_tells}
use mathlib.Core.Logic.{inl, inr}
use Rattle.vg_core.specs.declared.heap.Cell.{Cell}
use Rattle.vg_core.specs.Heap.{Kind, ObjectOf, ArrayOf, kind_of}
use Rattle.vg_numbers.specs.Numbers.{is_array_of, one_if, arrays_before}
use Rattle.vg_number.specs.Counts.{Counts}
use Rattle.vg_number.specs.Counting.{is_object_of, own_before, HasCounted, handed, raised, counted, HasRoom, HaveRoom, HasWalked}

-- ---- one cell more

own_none : (c : ℕ) (kept : ℕ → Bool) (at : ℕ) (κ : List Kind) → own_before c kept at κ 0 ≡ 0
own_none c kept at [] = refl
own_none c kept at (a ∷ κ) = refl

arrays_none : (t : ℕ) (kept : ℕ → Bool) (at : ℕ) (κ : List Kind) → arrays_before t kept at κ 0 ≡ 0
arrays_none t kept at [] = refl
arrays_none t kept at (a ∷ κ) = refl

own_next : (c : ℕ) (kept : ℕ → Bool) (at : ℕ) (κ : List Kind) (i : ℕ) (a : Kind) → slice_get κ i ≡ Some a
    → own_before c kept at κ (suc i) ≡ own_before c kept at κ i + one_if (kept (at + i) && is_object_of c a)
own_next c kept at [] i a e = absurd (none-some a e)
own_next c kept at (b ∷ κ) zero a e =
    let z : at + 0 ≡ at = omega arith in
    let k : one_if (kept (at + 0) && is_object_of c a) ≡ one_if (kept at && is_object_of c b) =
    ap (λ n. one_if (kept n && is_object_of c a)) z ∙ ap (λ x. one_if (kept at && is_object_of c x)) (sym (same_Some b a e)) in
    let n = own_none c kept (suc at) κ in omega (arith, n, k)
own_next c kept at (b ∷ κ) (suc i) a e =
    let z : at + suc i ≡ suc at + i = omega arith in
    let k = ap (λ n. one_if (kept n && is_object_of c a)) z in
    let h = own_next c kept (suc at) κ i a e in omega (arith, h, k)

arrays_next : (t : ℕ) (kept : ℕ → Bool) (at : ℕ) (κ : List Kind) (i : ℕ) (a : Kind) → slice_get κ i ≡ Some a
    → arrays_before t kept at κ (suc i) ≡ arrays_before t kept at κ i + one_if (kept (at + i) && is_array_of t a)
arrays_next t kept at [] i a e = absurd (none-some a e)
arrays_next t kept at (b ∷ κ) zero a e =
    let z : at + 0 ≡ at = omega arith in
    let k : one_if (kept (at + 0) && is_array_of t a) ≡ one_if (kept at && is_array_of t b) =
    ap (λ n. one_if (kept n && is_array_of t a)) z ∙ ap (λ x. one_if (kept at && is_array_of t x)) (sym (same_Some b a e)) in
    let n = arrays_none t kept (suc at) κ in omega (arith, n, k)
arrays_next t kept at (b ∷ κ) (suc i) a e =
    let z : at + suc i ≡ suc at + i = omega arith in
    let k = ap (λ n. one_if (kept n && is_array_of t a)) z in
    let h = arrays_next t kept (suc at) κ i a e in omega (arith, h, k)

pub own_more : (c : ℕ) (kept : ℕ → Bool) (κ : List Kind) (i : ℕ) (a : Kind) (b : Bool) → slice_get κ i ≡ Some a → kept i ≡ b
    → own_before c kept 0 κ (suc i) ≡ own_before c kept 0 κ i + one_if (b && is_object_of c a)
own_more c kept κ i a b e q =
    let z : 0 + i ≡ i = omega arith in own_next c kept 0 κ i a e
    ∙ ap (λ x. own_before c kept 0 κ i + one_if (x && is_object_of c a)) (ap kept z ∙ q)

pub arrays_more : (t : ℕ) (kept : ℕ → Bool) (κ : List Kind) (i : ℕ) (a : Kind) (b : Bool) → slice_get κ i ≡ Some a → kept i ≡ b
    → arrays_before t kept 0 κ (suc i) ≡ arrays_before t kept 0 κ i + one_if (b && is_array_of t a)
arrays_more t kept κ i a b e q =
    let z : 0 + i ≡ i = omega arith in arrays_next t kept 0 κ i a e
    ∙ ap (λ x. arrays_before t kept 0 κ i + one_if (x && is_array_of t a)) (ap kept z ∙ q)

-- ---- one counter more

raised_at : (ns : List ℕ) (i d : ℕ) → i < length ns → get_or (raised i ns) d 0 ≡ get_or ns d 0 + one_if (i == d)
raised_at ns i d lt = step (eqb_tells i d)
  where
    step : (((i == d) ≡ true) × (i ≡ d)) ⊎ (((i == d) ≡ false) × ((i ≡ d) → ⊥)) → get_or (raised i ns) d 0 ≡ get_or ns d 0 + one_if (i == d)
    step (inl (b, q)) =
        let s : get_or (raised i ns) d 0 ≡ get_or ns i 0 + 1 = ap (λ z. get_or (raised i ns) z 0) (sym q) ∙ get_or-set_same ns i (get_or ns i 0 + 1) 0 lt in
        let g = ap (λ z. get_or ns z 0) q in let o = ap one_if b in omega (arith, s, g, o)
    step (inr (b, q)) =
        let s = get_or-set_other ns i d (get_or ns i 0 + 1) 0 (λ z. q (sym z)) in let o = ap one_if b in omega (arith, s, o)

pub counted_more : (κ : List Kind) (kept : ℕ → Bool) (begun : Counts) (n : ℕ) (now : Counts) (a : Kind) → slice_get κ n ≡ Some a
    → HasCounted κ kept begun n now → HasRoom (kept n) a now → HasCounted κ kept begun (suc n) (counted (kept n) a now)
counted_more κ kept begun n now a e h room = step (kept n) refl a e room
  where
    step : (b : Bool) → kept n ≡ b → (x : Kind) → slice_get κ n ≡ Some x → HasRoom b x now → HasCounted κ kept begun (suc n) (counted b x now)
    step false q x e r = record {
      classes = h.classes;
      types = h.types;
      objects = λ d lt. let o = own_more d kept κ n x false e q in let g = h.objects d lt in omega (arith, o, g);
      arrays = λ t lt. let o = arrays_more t kept κ n x false e q in let g = h.arrays t lt in omega (arith, o, g);
    }
    step true q (ObjectOf c) e r = record {
      classes = length-set now.objects c (get_or now.objects c 0 + 1) ∙ h.classes;
      types = h.types;
      objects = λ d lt. let o = own_more d kept κ n (ObjectOf c) true e q in let g = h.objects d lt in let z = raised_at now.objects c d r.0 in
          omega (arith, o, g, z);
      arrays = λ t lt. let o = arrays_more t kept κ n (ObjectOf c) true e q in let g = h.arrays t lt in omega (arith, o, g);
    }
    step true q (ArrayOf t size) e r = record {
      classes = h.classes;
      types = length-set now.arrays t (get_or now.arrays t 0 + 1) ∙ h.types;
      objects = λ d lt. let o = own_more d kept κ n (ArrayOf t size) true e q in let g = h.objects d lt in omega (arith, o, g);
      arrays = λ u lt. let o = arrays_more u kept κ n (ArrayOf t size) true e q in let g = h.arrays u lt in let z = raised_at now.arrays t u r.0 in
          omega (arith, o, g, z);
    }

pub counted_first : (κ : List Kind) (kept : ℕ → Bool) (begun : Counts) → HasCounted κ kept begun 0 begun
counted_first κ kept begun = record {
  classes = refl;
  types = refl;
  objects = λ d lt. let n = own_none d kept 0 κ in omega (arith, n);
  arrays = λ t lt. let n = arrays_none t kept 0 κ in omega (arith, n);
}

-- ---- the walk

get_front : (xs : List ℕ) (z y n : ℕ) → slice_get xs n ≡ Some y → slice_get (xs ++ z ∷ []) n ≡ Some y
get_front [] z y n e = absurd (none-some y e)
get_front (x ∷ xs) z y zero e = e
get_front (x ∷ xs) z y (suc n) e = get_front xs z y n e

get_last : (xs : List ℕ) (z : ℕ) → slice_get (xs ++ z ∷ []) (length xs) ≡ Some z
get_last [] z = refl
get_last (x ∷ xs) z = get_last xs z

same_or_less : (j n : ℕ) → j < suc n → (j ≡ n) ⊎ (j < n)
same_or_less j n lt = step (eqb_tells j n)
  where
    step : (((j == n) ≡ true) × (j ≡ n)) ⊎ (((j == n) ≡ false) × ((j ≡ n) → ⊥)) → (j ≡ n) ⊎ (j < n)
    step (inl (b, q)) = inl q
    step (inr (b, q)) = inr (omega (arith, lt, q))

pub walked_first : (κ : List Kind) (kept : ℕ → Bool) (begun : Counts) → HasWalked κ kept begun 0 [] begun
walked_first κ kept begun = record { counters = counted_first κ kept begun; cells = refl; each = λ j lt. absurd (omega (arith, lt)) }

pub walked_more : (κ : List Kind) (kept : ℕ → Bool) (begun : Counts) (n : ℕ) (of_cell : List ℕ) (now : Counts) (a : Kind) → slice_get κ n ≡ Some a
    → HasWalked κ kept begun n of_cell now → HasRoom (kept n) a now
    → HasWalked κ kept begun (suc n) (of_cell ++ handed (kept n) (Some a) now ∷ []) (counted (kept n) a now)
walked_more κ kept begun n of_cell now a e h room = record {
  counters = counted_more κ kept begun n now a e h.counters room;
  cells = let l = length-append of_cell (handed (kept n) (Some a) now ∷ []) in let c = h.cells in omega (arith, l, c);
  each = λ j lt. step j (same_or_less j n lt);
}
  where
    step : (j : ℕ) → (j ≡ n) ⊎ (j < n)
        → (then_ : Counts) × HasCounted κ kept begun j then_
        × (slice_get (of_cell ++ handed (kept n) (Some a) now ∷ []) j ≡ Some (handed (kept j) (slice_get κ j) then_))
    step j (inl q) =
        subst (λ z. (then_ : Counts) × HasCounted κ kept begun z then_
        × (slice_get (of_cell ++ handed (kept n) (Some a) now ∷ []) z ≡ Some (handed (kept z) (slice_get κ z) then_))) (sym q) (
          now,
          h.counters,
          ap (slice_get (of_cell ++ handed (kept n) (Some a) now ∷ [])) (sym h.cells)
              ∙ (get_last of_cell (handed (kept n) (Some a) now) ∙ ap (λ z. Some (handed (kept n) z now)) (sym e)),
        )
    step j (inr lt) =
        let g = h.each j lt in (g.0, g.1, get_front of_cell (handed (kept n) (Some a) now) (handed (kept j) (slice_get κ j) g.0) j g.2)

-- ---- one turn

pub kind_at : (cells : List Cell) (i : ℕ) (x : Cell) → i < length cells → x ≡ get_or cells i x → slice_get (map kind_of cells) i ≡ Some (kind_of x)
kind_at cells i x lt is = slice_get-map kind_of cells i ∙ ap (option_map kind_of) (slice_get_read cells (length cells) i x refl lt is)

-- the counter of the next cell can be raised
pub room_at : (κ : List Kind) (kept : ℕ → Bool) (begun : Counts) (n : ℕ) (of_cell : List ℕ) (now : Counts) (a : Kind) (b : Bool) → slice_get κ n ≡ Some a
    → b ≡ kept n → HaveRoom κ kept begun → HasWalked κ kept begun n of_cell now → HasRoom b a now
room_at κ kept begun n of_cell now a b e q room h = subst (λ z. HasRoom z a now) (sym q) (room n a now e h.counters)

pub turn : (κ : List Kind) (kept : ℕ → Bool) (begun : Counts) (n : ℕ) (of_cell new : List ℕ) (now then_ : Counts) (a : Kind) (b : Bool) (x : ℕ)
    → slice_get κ n ≡ Some a → b ≡ kept n → HaveRoom κ kept begun → HasWalked κ kept begun n of_cell now
    → x ≡ handed b (Some a) now → then_ ≡ counted b a now → new ≡ of_cell ++ x ∷ [] → HasWalked κ kept begun (n + 1) new then_
turn κ kept begun n of_cell new now then_ a b x e q room h ex et en =
    let one : suc n ≡ n + 1 = omega arith in
    subst (λ z. HasWalked κ kept begun z new then_) one
    (subst (λ z. HasWalked κ kept begun (suc n) z then_) (sym (en ∙ ap (λ z. of_cell ++ z ∷ []) (ex ∙ ap (λ z. handed z (Some a) now) q)))
    (subst (HasWalked κ kept begun (suc n) (of_cell ++ handed (kept n) (Some a) now ∷ [])) (sym (et ∙ ap (λ z. counted z a now) q))
    (walked_more κ kept begun n of_cell now a e h (room n a now e h.counters))))
