-- The arrays of each type, one cell more at a time.
use Rattle.std.proofs.Common.{◌≡◌, ◌⊎◌, refl, sym, ap, subst, ◌∙◌, arith, ℕ, zero, suc, ◌+◌, ◌<◌, ◌≤◌, ◌==◌, ◌&&◌, ◌||◌, not, Bool, true, false, List}
use Rattle.std.proofs.Common.{[], ◌∷◌, ◌++◌, drop, length, get_or, replicate}
use Rattle.std.proofs.Common.{append_assoc, Some, slice_get, slice_set, if◌then◌else◌}
use Rattle.std.proofs.lemmas.Option.{same_Some, none-some, slice_get_within, get_or_from_slice_get}
use Rattle.std.proofs.lemmas.List.{length-set, length-append, length-replicate, get_or-replicate, get_or-set_same, get_or-set_other, drop_more}
use Rattle.std.proofs.lemmas.Bool.Decides.{eqb_tells}
use mathlib.Core.Logic.{inl, inr}
use Rattle.vg_core.specs.declared.program.Tables.{Tables}
use Rattle.vg_core.specs.Heap.{Kind, ObjectOf, ArrayOf}
use Rattle.vg_core.specs.Tables.{is_in}
use Rattle.vg_numbers.specs.Numbers.{is_array_of, one_if, arrays_before}
use Rattle.vg_number.specs.Numbering.{AreListed, AreFew}
use Rattle.vg_number.proofs.Walking.{arrays_more}
use Rattle.vg_placement.specs.Columns.{elements, start_of, array_types}
use Rattle.vg_place.specs.Arrays.{Arrays, arrays}
use Rattle.vg_place.specs.Counting.{noted, with_type, HasPlace, HasNoted, size_in, elements_in}

-- ---- elements before a cell

start_none : (t : ℕ) (kept : ℕ → Bool) (at : ℕ) (κ : List Kind) → start_of kept t at κ 0 ≡ 0
start_none t kept at [] = refl
start_none t kept at (a ∷ κ) = refl

start_next : (t : ℕ) (kept : ℕ → Bool) (at : ℕ) (κ : List Kind) (i : ℕ) (a : Kind) → slice_get κ i ≡ Some a
    → start_of kept t at κ (suc i) ≡ start_of kept t at κ i + elements (kept (at + i)) t a
start_next t kept at [] i a e = absurd (none-some a e)
start_next t kept at (b ∷ κ) zero a e =
    let z : at + 0 ≡ at = omega arith in
    let k : elements (kept (at + 0)) t a ≡ elements (kept at) t b = ap (λ n. elements (kept n) t a) z ∙ ap (elements (kept at) t) (sym (same_Some b a e)) in
    let n = start_none t kept (suc at) κ in omega (arith, n, k)
start_next t kept at (b ∷ κ) (suc i) a e =
    let z : at + suc i ≡ suc at + i = omega arith in
    let k = ap (λ n. elements (kept n) t a) z in
    let h = start_next t kept (suc at) κ i a e in omega (arith, h, k)

start_more : (t : ℕ) (kept : ℕ → Bool) (κ : List Kind) (i : ℕ) (a : Kind) (b : Bool) → slice_get κ i ≡ Some a → kept i ≡ b
    → start_of kept t 0 κ (suc i) ≡ start_of kept t 0 κ i + elements b t a
start_more t kept κ i a b e q =
    let z : 0 + i ≡ i = omega arith in start_next t kept 0 κ i a e ∙ ap (λ x. start_of kept t 0 κ i + elements x t a) (ap kept z ∙ q)

at_most : (b : Bool) (t : ℕ) (a : Kind) → elements b t a ≤ size_in a
at_most false t a = omega arith
at_most true t (ObjectOf c) = omega arith
at_most true t (ArrayOf u n) = step (u == t)
  where
    step : (x : Bool) → (if x then n else 0) ≤ n
    step true = omega arith
    step false = omega arith

start_few : (t : ℕ) (kept : ℕ → Bool) (at : ℕ) (κ : List Kind) (n : ℕ) → start_of kept t at κ n ≤ elements_in κ
start_few t kept at [] n = omega arith
start_few t kept at (a ∷ κ) zero = omega arith
start_few t kept at (a ∷ κ) (suc n) = let h = start_few t kept (suc at) κ n in let m = at_most (kept at) t a in omega (arith, h, m)

arrays_few : (t : ℕ) (kept : ℕ → Bool) (at : ℕ) (κ : List Kind) (n : ℕ) → arrays_before t kept at κ n ≤ length κ
arrays_few t kept at [] n = omega arith
arrays_few t kept at (a ∷ κ) zero = omega arith
arrays_few t kept at (a ∷ κ) (suc n) =
    let h = arrays_few t kept (suc at) κ n in let m = ones (kept at && is_array_of t a) in omega (arith, h, m)
  where
    ones : (x : Bool) → one_if x ≤ 1
    ones true = omega arith
    ones false = omega arith

-- ---- one number of a list

set_at : (ns : List ℕ) (i d n : ℕ) → i < length ns → get_or (slice_set ns i (get_or ns i 0 + n)) d 0 ≡ get_or ns d 0 + (if i == d then n else 0)
set_at ns i d n lt = step (eqb_tells i d)
  where
    step : (((i == d) ≡ true) × (i ≡ d)) ⊎ (((i == d) ≡ false) × ((i ≡ d) → ⊥))
        → get_or (slice_set ns i (get_or ns i 0 + n)) d 0 ≡ get_or ns d 0 + (if i == d then n else 0)
    step (inl (b, q)) =
        let s : get_or (slice_set ns i (get_or ns i 0 + n)) d 0 ≡ get_or ns i 0 + n =
        ap (λ z. get_or (slice_set ns i (get_or ns i 0 + n)) z 0) (sym q) ∙ get_or-set_same ns i (get_or ns i 0 + n) 0 lt in
        let g = ap (λ z. get_or ns z 0) q in let o : (if i == d then n else 0) ≡ n = ap (λ x. if x then n else 0) b in omega (arith, s, g, o)
    step (inr (b, q)) =
        let s = get_or-set_other ns i d (get_or ns i 0 + n) 0 (λ z. q (sym z)) in
        let o : (if i == d then n else 0) ≡ 0 = ap (λ x. if x then n else 0) b in omega (arith, s, o)

not_zero : (n : ℕ) → not (n + 1 == 0) ≡ true
not_zero n = let z : (n + 1 == 0) ≡ false = grind arith in ap not z

-- ---- one cell more

module _ (types : ℕ) (κ : List Kind) (kept : ℕ → Bool) (n : ℕ) (a : Arrays) (h : HasNoted types κ kept n a) where
  rest_at : (k : Kind) → slice_get κ n ≡ Some k → drop n κ ≡ k ∷ drop (n + 1) κ
  rest_at k e = drop_more κ n k (slice_get_within κ n k e) ∙ ap (λ z. z ∷ drop (n + 1) κ) (get_or_from_slice_get κ n k k e)

  one : suc n ≡ n + 1
  one = omega arith

  -- a cell that is no kept array
  pass : (k : Kind) (b : Bool) → slice_get κ n ≡ Some k → kept n ≡ b → ((t : ℕ) → elements b t k ≡ 0) → ((t : ℕ) → (b && is_array_of t k) ≡ false)
      → ((seen : List ℕ) → array_types kept seen n (k ∷ drop (n + 1) κ) ≡ array_types kept seen (suc n) (drop (n + 1) κ)) → HasNoted types κ kept (n + 1) a
  pass k b e q none not_one skip = record {
    sizes_ = h.sizes_;
    counts_ = h.counts_;
    few = let f = h.few in omega (arith, f);
    sizes = λ t lt. let m = start_more t kept κ n k b e q in let s = h.sizes t lt in let z = none t in let w = ap (start_of kept t 0 κ) one in
        omega (arith, m, s, z, w);
    counts = λ t lt. let m = arrays_more t kept κ n k b e q in let s = h.counts t lt in let z = ap one_if (not_one t) in
        let w = ap (arrays_before t kept 0 κ) one in omega (arith, m, s, z, w);
    seen = h.seen;
    are_seen = h.are_seen;
    order = ap (λ z. a.order ++ array_types kept h.seen z (drop (n + 1) κ)) (sym one)
        ∙ (ap (λ z. a.order ++ z) (sym (skip h.seen)) ∙ (ap (λ z. a.order ++ array_types kept h.seen n z) (sym (rest_at k e)) ∙ h.order));
  }

  -- a kept array
  module _ (t size : ℕ) (e : slice_get κ n ≡ Some (ArrayOf t size)) (q : kept n ≡ true) (there : t < types) where
    abbrev new : (first : Bool) → Arrays
    new first = record {
      order = with_type first t a.order;
      sizes = slice_set a.sizes t (get_or a.sizes t 0 + size);
      counts = slice_set a.counts t (get_or a.counts t 0 + 1);
    }

    at_type : (u : ℕ) → get_or (slice_set a.counts t (get_or a.counts t 0 + 1)) u 0 ≡ get_or a.counts u 0 + (if t == u then 1 else 0)
    at_type u = set_at a.counts t u 1 (let l = h.counts_ in omega (arith, there, l))

    ones : (b : Bool) → (if b then 1 else 0) ≡ one_if b
    ones true = refl
    ones false = refl

    sizes_more : (u : ℕ) → u < types → get_or (slice_set a.sizes t (get_or a.sizes t 0 + size)) u 0 ≡ start_of kept u 0 κ (n + 1)
    sizes_more u lt =
        let m = start_more u kept κ n (ArrayOf t size) true e q in let s = h.sizes u lt in
        let g = set_at a.sizes t u size (let l = h.sizes_ in omega (arith, there, l)) in
        let w = ap (start_of kept u 0 κ) one in omega (arith, m, s, g, w)

    counts_more : (u : ℕ) → u < types → get_or (slice_set a.counts t (get_or a.counts t 0 + 1)) u 0 ≡ arrays_before u kept 0 κ (n + 1)
    counts_more u lt =
        let m = arrays_more u kept κ n (ArrayOf t size) true e q in let s = h.counts u lt in let g = at_type u in
        let o = ones (t == u) in let w = ap (arrays_before u kept 0 κ) one in omega (arith, m, s, g, o, w)

    -- what is seen where the type was seen, and where it was not
    seen_still : (get_or a.counts t 0 == 0) ≡ false → (u : ℕ) → u < types
        → is_in h.seen u ≡ not (get_or (slice_set a.counts t (get_or a.counts t 0 + 1)) u 0 == 0)
    seen_still f u lt = step (eqb_tells t u)
      where
        step : (((t == u) ≡ true) × (t ≡ u)) ⊎ (((t == u) ≡ false) × ((t ≡ u) → ⊥))
            → is_in h.seen u ≡ not (get_or (slice_set a.counts t (get_or a.counts t 0 + 1)) u 0 == 0)
        step (inl (b, tu)) =
            h.are_seen u lt ∙ (ap (λ z. not (get_or a.counts z 0 == 0)) (sym tu) ∙ (ap not f
            ∙ sym (ap (λ z. not (z == 0)) (at_type u ∙ ap (λ z. get_or a.counts u 0 + (if z then 1 else 0)) b) ∙ not_zero (get_or a.counts u 0))))
        step (inr (b, nu)) =
            h.are_seen u lt ∙ ap (λ z. not (z == 0)) (sym (at_type u ∙ (ap (λ z. get_or a.counts u 0 + (if z then 1 else 0)) b
            ∙ plus_none (get_or a.counts u 0))))
          where
            plus_none : (x : ℕ) → x + 0 ≡ x
            plus_none x = omega arith

    seen_now : (u : ℕ) → u < types → is_in (t ∷ h.seen) u ≡ not (get_or (slice_set a.counts t (get_or a.counts t 0 + 1)) u 0 == 0)
    seen_now u lt = step (eqb_tells t u)
      where
        step : (((t == u) ≡ true) × (t ≡ u)) ⊎ (((t == u) ≡ false) × ((t ≡ u) → ⊥))
            → (t == u || is_in h.seen u) ≡ not (get_or (slice_set a.counts t (get_or a.counts t 0 + 1)) u 0 == 0)
        step (inl (b, tu)) =
            ap (λ z. z || is_in h.seen u) b
            ∙ sym (ap (λ z. not (z == 0)) (at_type u ∙ ap (λ z. get_or a.counts u 0 + (if z then 1 else 0)) b) ∙ not_zero (get_or a.counts u 0))
        step (inr (b, nu)) =
            ap (λ z. z || is_in h.seen u) b ∙ (h.are_seen u lt
            ∙ ap (λ z. not (z == 0)) (sym (at_type u ∙ (ap (λ z. get_or a.counts u 0 + (if z then 1 else 0)) b ∙ plus_none (get_or a.counts u 0)))))
          where
            plus_none : (x : ℕ) → x + 0 ≡ x
            plus_none x = omega arith

    -- the types, where this one is seen or not
    types_here : (s : Bool) → is_in h.seen t ≡ s
        → array_types kept h.seen n (drop n κ)
        ≡ (if not s then t ∷ array_types kept (t ∷ h.seen) (n + 1) (drop (n + 1) κ) else array_types kept h.seen (n + 1) (drop (n + 1) κ))
    types_here s f =
        ap (array_types kept h.seen n) (rest_at (ArrayOf t size) e)
        ∙ (ap (λ z. if z && not (is_in h.seen t) then t ∷ array_types kept (t ∷ h.seen) (suc n) (drop (n + 1) κ)
        else array_types kept h.seen (suc n) (drop (n + 1) κ)) q
        ∙ (ap (λ z. if not z then t ∷ array_types kept (t ∷ h.seen) (suc n) (drop (n + 1) κ) else array_types kept h.seen (suc n) (drop (n + 1) κ)) f
        ∙ ap (λ z. if not s then t ∷ array_types kept (t ∷ h.seen) z (drop (n + 1) κ) else array_types kept h.seen z (drop (n + 1) κ)) one))

    pub array_noted : (first : Bool) → (get_or a.counts t 0 == 0) ≡ first → HasNoted types κ kept (n + 1) (new first)
    array_noted false f = record {
      sizes_ = length-set a.sizes t (get_or a.sizes t 0 + size) ∙ h.sizes_;
      counts_ = length-set a.counts t (get_or a.counts t 0 + 1) ∙ h.counts_;
      few = let w = h.few in omega (arith, w);
      sizes = sizes_more;
      counts = counts_more;
      seen = h.seen;
      are_seen = seen_still f;
      order = ap (λ z. a.order ++ z) (sym (types_here true (h.are_seen t there ∙ ap not f))) ∙ h.order;
    }
    array_noted true f = record {
      sizes_ = length-set a.sizes t (get_or a.sizes t 0 + size) ∙ h.sizes_;
      counts_ = length-set a.counts t (get_or a.counts t 0 + 1) ∙ h.counts_;
      few = let w = h.few in let l = length-append a.order (t ∷ []) in omega (arith, w, l);
      sizes = sizes_more;
      counts = counts_more;
      seen = t ∷ h.seen;
      are_seen = seen_now;
      order = append_assoc a.order (t ∷ []) (array_types kept (t ∷ h.seen) (n + 1) (drop (n + 1) κ))
          ∙ (ap (λ z. a.order ++ z) (sym (types_here false (h.are_seen t there ∙ ap not f))) ∙ h.order);
    }

pub noted_more : (types : ℕ) (κ : List Kind) (kept : ℕ → Bool) (n : ℕ) (a : Arrays) (k : Kind) (b : Bool) → slice_get κ n ≡ Some k → b ≡ kept n
    → HasPlace b k a → HasNoted types κ kept n a → HasNoted types κ kept (n + 1) (noted b k a)
noted_more types κ kept n a k false e q room h =
    pass types κ kept n a h k false e (sym q) (λ t. refl) (λ t. refl) (λ seen. skip k seen)
  where
    skip : (k : Kind) (seen : List ℕ) → array_types kept seen n (k ∷ drop (n + 1) κ) ≡ array_types kept seen (suc n) (drop (n + 1) κ)
    skip (ObjectOf c) seen = refl
    skip (ArrayOf t size) seen =
        ap (λ z. if z && not (is_in seen t) then t ∷ array_types kept (t ∷ seen) (suc n) (drop (n + 1) κ) else array_types kept seen (suc n) (drop (n +
        1) κ)) (sym q)
noted_more types κ kept n a (ObjectOf c) true e q room h =
    pass types κ kept n a h (ObjectOf c) true e (sym q) (λ t. refl) (λ t. refl) (λ seen. refl)
noted_more types κ kept n a (ArrayOf t size) true e q room h =
    array_noted types κ kept n a h t size e (sym q) (let l = h.sizes_ in let r = room.0 in omega (arith, r, l)) (get_or a.counts t 0 == 0) refl

-- ---- the whole pass

pub noted_first : (types count : ℕ) (κ : List Kind) (kept : ℕ → Bool) (a : Arrays) → count ≡ types → a ≡ arrays [] (replicate count 0) (replicate count 0)
    → HasNoted types κ kept 0 a
noted_first types count κ kept a ec e =
    subst (HasNoted types κ kept 0) (sym (e ∙ ap (λ z. arrays [] (replicate z 0) (replicate z 0)) ec)) (record {
      sizes_ = length-replicate {A = ℕ} types 0;
      counts_ = length-replicate {A = ℕ} types 0;
      few = omega arith;
      sizes = λ t lt. let z = get_or-replicate {A = ℕ} types t 0 0 lt in let s = start_none t kept 0 κ in omega (arith, z, s);
      counts = λ t lt. let z = get_or-replicate {A = ℕ} types t 0 0 lt in let s = none t 0 κ in omega (arith, z, s);
      seen = [];
      are_seen = λ t lt. sym (ap (λ z. not (z == 0)) (get_or-replicate {A = ℕ} types t 0 0 lt));
      order = refl;
    })
  where
    none : (t at : ℕ) (κ1 : List Kind) → arrays_before t kept at κ1 0 ≡ 0
    none t at [] = refl
    none t at (x ∷ xs) = refl

-- there is room for each cell
pub has_place : (p : Tables) (κ : List Kind) (kept : ℕ → Bool) (n : ℕ) (a : Arrays) (k : Kind) (b : Bool) → AreListed p κ → AreFew κ
    → elements_in κ ≤ 60000 → slice_get κ n ≡ Some k → b ≡ kept n → HasNoted (length p.types) κ kept n a → HasPlace b k a
has_place p κ kept n a k false listed few small e q h = tt
has_place p κ kept n a (ObjectOf c) true listed few small e q h = tt
has_place p κ kept n a (ArrayOf t size) true listed few small e q h =
    let lt = listed n (ArrayOf t size) e in let sl = h.sizes_ in let cl = h.counts_ in (
      omega (arith, lt, sl),
      omega (arith, lt, cl),
      (let m = start_more t kept κ n (ArrayOf t size) true e (sym q) in let s = h.sizes t lt in let f = start_few t kept 0 κ (suc n) in
          let o : elements true t (ArrayOf t size) ≡ size = ap (λ x. if x then size else 0) (same t) in omega (arith, m, s, f, o, small)),
      (let s = h.counts t lt in let f = arrays_few t kept 0 κ n in omega (arith, s, f, few)),
    )
  where
    same : (x : ℕ) → (x == x) ≡ true
    same x = grind arith

pub noting : (p : Tables) (κ : List Kind) (kept : ℕ → Bool) (n : ℕ) (a new : Arrays) (k : Kind) (b : Bool) → AreListed p κ → AreFew κ
    → elements_in κ ≤ 60000 → slice_get κ n ≡ Some k → b ≡ kept n → HasNoted (length p.types) κ kept n a → new ≡ noted b k a
    → HasNoted (length p.types) κ kept (n + 1) new
noting p κ kept n a new k b listed few small e q h en =
    subst (HasNoted (length p.types) κ kept (n + 1)) (sym en)
    (noted_more (length p.types) κ kept n a k b e q (has_place p κ kept n a k b listed few small e q h) h)
