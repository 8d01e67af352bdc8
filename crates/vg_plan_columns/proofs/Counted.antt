-- Elements and arrays of each type, one cell more at a time.
use Rattle.std.proofs.Common.{◌≡◌, ◌⊎◌, refl, sym, ap, ◌∙◌, arith, ℕ, zero, suc, ◌+◌, ◌-◌, ◌<◌, ◌≤◌, ◌==◌, Bool, true, false, List, [], ◌∷◌, ◌++◌}
use Rattle.std.proofs.Common.{length, get_or, replicate, Some, slice_get, slice_set, if◌then◌else◌}
use Rattle.std.proofs.lemmas.Option.{same_Some, none-some}
use Rattle.std.proofs.lemmas.List.{length-set, length-append, length-replicate, get_or-replicate, get_or-set_same, get_or-set_other}
use Rattle.std.proofs.lemmas.List.{get_or_append_left, get_or-append_right}
use Rattle.std.proofs.lemmas.Bool.Decides.{eqb_tells}
use mathlib.Core.Logic.{inl, inr}
use Rattle.vg_core.specs.declared.program.Tables.{Tables}
use Rattle.vg_core.specs.Heap.{Kind, ObjectOf, ArrayOf}
use Rattle.vg_number.specs.Numbering.{AreListed}
use Rattle.vg_placement.specs.Columns.{elements, start_of}
use Rattle.vg_place.specs.Counting.{size_in, elements_in}
use Rattle.vg_plan_columns.specs.Starts.{start_noted, size_noted, HasSize, HasSizes, HasStarts}

start_none : (t : ℕ) (kept : ℕ → Bool) (at : ℕ) (κ : List Kind) → start_of kept t at κ 0 ≡ 0
start_none t kept at [] = refl
start_none t kept at (a ∷ κ) = refl

start_next : (t : ℕ) (kept : ℕ → Bool) (at : ℕ) (κ : List Kind) (i : ℕ) (a : Kind) → slice_get κ i ≡ Some a
    → start_of kept t at κ (suc i) ≡ start_of kept t at κ i + elements (kept (at + i)) t a
start_next t kept at [] i a e = absurd (none-some a e)
start_next t kept at (b ∷ κ) zero a e =
    let z : at + 0 ≡ at = omega arith in
    let k : elements (kept (at + 0)) t a ≡ elements (kept at) t b = ap (λ n. elements (kept n) t a) z ∙ ap (elements (kept at) t) (sym (same_Some b a e)) in
    let n = start_none t kept (suc at) κ in omega (arith, n, k)
start_next t kept at (b ∷ κ) (suc i) a e =
    let z : at + suc i ≡ suc at + i = omega arith in
    let k = ap (λ n. elements (kept n) t a) z in
    let h = start_next t kept (suc at) κ i a e in omega (arith, h, k)

pub start_more : (t : ℕ) (kept : ℕ → Bool) (κ : List Kind) (i : ℕ) (a : Kind) (b : Bool) → slice_get κ i ≡ Some a → b ≡ kept i
    → start_of kept t 0 κ (i + 1) ≡ start_of kept t 0 κ i + elements b t a
start_more t kept κ i a b e q =
    let z : 0 + i ≡ i = omega arith in let one : i + 1 ≡ suc i = omega arith in
    ap (start_of kept t 0 κ) one ∙ (start_next t kept 0 κ i a e ∙ ap (λ x. start_of kept t 0 κ i + elements x t a) (ap kept z ∙ sym q))

at_most : (b : Bool) (t : ℕ) (a : Kind) → elements b t a ≤ size_in a
at_most false t a = omega arith
at_most true t (ObjectOf c) = omega arith
at_most true t (ArrayOf u n) = step (u == t)
  where
    step : (x : Bool) → (if x then n else 0) ≤ n
    step true = omega arith
    step false = omega arith

start_few : (t : ℕ) (kept : ℕ → Bool) (at : ℕ) (κ : List Kind) (n : ℕ) → start_of kept t at κ n ≤ elements_in κ
start_few t kept at [] n = omega arith
start_few t kept at (a ∷ κ) zero = omega arith
start_few t kept at (a ∷ κ) (suc n) = let h = start_few t kept (suc at) κ n in let m = at_most (kept at) t a in omega (arith, h, m)

set_at : (ns : List ℕ) (i d n : ℕ) → i < length ns → get_or (slice_set ns i (get_or ns i 0 + n)) d 0 ≡ get_or ns d 0 + (if i == d then n else 0)
set_at ns i d n lt = step (eqb_tells i d)
  where
    step : (((i == d) ≡ true) × (i ≡ d)) ⊎ (((i == d) ≡ false) × ((i ≡ d) → ⊥))
        → get_or (slice_set ns i (get_or ns i 0 + n)) d 0 ≡ get_or ns d 0 + (if i == d then n else 0)
    step (inl (b, q)) =
        let s : get_or (slice_set ns i (get_or ns i 0 + n)) d 0 ≡ get_or ns i 0 + n =
        ap (λ z. get_or (slice_set ns i (get_or ns i 0 + n)) z 0) (sym q) ∙ get_or-set_same ns i (get_or ns i 0 + n) 0 lt in
        let g = ap (λ z. get_or ns z 0) q in let o : (if i == d then n else 0) ≡ n = ap (λ x. if x then n else 0) b in omega (arith, s, g, o)
    step (inr (b, q)) =
        let s = get_or-set_other ns i d (get_or ns i 0 + n) 0 (λ z. q (sym z)) in
        let o : (if i == d then n else 0) ≡ 0 = ap (λ x. if x then n else 0) b in omega (arith, s, o)

-- ---- sizes

pub sizes_first : (types count : ℕ) (κ : List Kind) (kept : ℕ → Bool) (sizes : List ℕ) → count ≡ types → sizes ≡ replicate count 0
    → HasSizes types κ kept 0 sizes
sizes_first types count κ kept sizes q e = record {
  types_ = ap length e ∙ (length-replicate count 0 ∙ q);
  each = λ t lt. let g : get_or sizes t 0 ≡ 0 = ap (λ z. get_or z t 0) e ∙ get_or-replicate count t 0 0 (omega (arith, lt, q)) in let n = start_none t kept 0 κ in omega (arith, g, n);
}

listed_type : (p : Tables) (κ : List Kind) (n t size : ℕ) → AreListed p κ → slice_get κ n ≡ Some (ArrayOf t size) → t < length p.types
listed_type p κ n t size listed e = listed n (ArrayOf t size) e

pub has_size : (p : Tables) (κ : List Kind) (kept : ℕ → Bool) (n : ℕ) (sizes : List ℕ) (a : Kind) (b : Bool) → AreListed p κ → elements_in κ ≤ 60000
    → slice_get κ n ≡ Some a → b ≡ kept n → HasSizes (length p.types) κ kept n sizes → HasSize b a sizes
has_size p κ kept n sizes a false listed few e q h = tt
has_size p κ kept n sizes (ObjectOf c) true listed few e q h = tt
has_size p κ kept n sizes (ArrayOf t size) true listed few e q h =
    let lt = listed n (ArrayOf t size) e in let l = h.types_ in let g = h.each t lt in
    let m = start_more t kept κ n (ArrayOf t size) true e q in let f = start_few t kept 0 κ (n + 1) in
    let s : (t == t) ≡ true = grind arith in let w : (if t == t then size else 0) ≡ size = ap (λ x. if x then size else 0) s in
    (omega (arith, lt, l), omega (arith, g, m, f, few, w))

pub sizes_more : (p : Tables) (κ : List Kind) (kept : ℕ → Bool) (n : ℕ) (sizes new : List ℕ) (a : Kind) (b : Bool) → AreListed p κ
    → slice_get κ n ≡ Some a → b ≡ kept n → HasSizes (length p.types) κ kept n sizes → new ≡ size_noted b a sizes → HasSizes (length p.types) κ kept (n + 1) new
sizes_more p κ kept n sizes new a false listed e q h is = record {
  types_ = ap length is ∙ h.types_;
  each = λ t lt. let g = h.each t lt in let m = start_more t kept κ n a false e q in let i = ap (λ z. get_or z t 0) is in omega (arith, g, m, i);
}
sizes_more p κ kept n sizes new (ObjectOf c) true listed e q h is = record {
  types_ = ap length is ∙ h.types_;
  each = λ t lt. let g = h.each t lt in let m = start_more t kept κ n (ObjectOf c) true e q in let i = ap (λ z. get_or z t 0) is in omega (arith, g, m, i);
}
sizes_more p κ kept n sizes new (ArrayOf u size) true listed e q h is = record {
  types_ = ap length is ∙ (length-set sizes u (get_or sizes u 0 + size) ∙ h.types_);
  each = λ t lt. let lu = listed n (ArrayOf u size) e in let l = h.types_ in let g = h.each t lt in
      let m = start_more t kept κ n (ArrayOf u size) true e q in let i = ap (λ z. get_or z t 0) is in
      let s = set_at sizes u t size (omega (arith, lu, l)) in omega (arith, g, m, i, s);
}

-- ---- starts

pub starts_first : (κ : List Kind) (kept : ℕ → Bool) (starts : List ℕ) → starts ≡ [] → HasStarts κ kept 0 starts
starts_first κ kept starts e = record { cells = ap length e; each = λ j t size lt k. absurd (omega (arith, lt)) }

same_or_less : (j n : ℕ) → j < n + 1 → (j ≡ n) ⊎ (j < n)
same_or_less j n lt = step (eqb_tells j n)
  where
    step : (((j == n) ≡ true) × (j ≡ n)) ⊎ (((j == n) ≡ false) × ((j ≡ n) → ⊥)) → (j ≡ n) ⊎ (j < n)
    step (inl (b, q)) = inl q
    step (inr (b, q)) = inr (omega (arith, lt, q))

last_of : (starts : List ℕ) (n x : ℕ) → length starts ≡ n → get_or (starts ++ x ∷ []) n 0 ≡ x
last_of starts n x l =
    let z : n - n ≡ 0 = omega arith in get_or-append_right starts (x ∷ []) n n 0 l (omega arith) ∙ ap (λ k. get_or (x ∷ []) k 0) z

pub starts_more : (p : Tables) (κ : List Kind) (kept : ℕ → Bool) (n : ℕ) (starts new sizes : List ℕ) (a : Kind) (x : ℕ) → AreListed p κ
    → slice_get κ n ≡ Some a → HasSizes (length p.types) κ kept n sizes → HasStarts κ kept n starts → x ≡ start_noted a sizes → new ≡ starts ++ x ∷ []
    → HasStarts κ kept (n + 1) new
starts_more p κ kept n starts new sizes a x listed e h s ex is = record {
  cells = let l = length-append starts (x ∷ []) in let c = s.cells in let i = ap length is in omega (arith, l, c, i);
  each = λ j t size lt k. step j t size k (same_or_less j n lt);
}
  where
    step : (j t size : ℕ) → slice_get κ j ≡ Some (ArrayOf t size) → (j ≡ n) ⊎ (j < n) → get_or new j 0 ≡ start_of kept t 0 κ j
    step j t size k (inl q) =
        let same : a ≡ ArrayOf t size = same_Some a (ArrayOf t size) (sym e ∙ (ap (slice_get κ) (sym q) ∙ k)) in
        let r : x ≡ start_of kept t 0 κ n =
        ex ∙ (ap (λ z. start_noted z sizes) same ∙ h.each t (listed n (ArrayOf t size) (e ∙ ap (λ z. Some z) same))) in
        ap (λ z. get_or z j 0) is ∙ (ap (λ z. get_or (starts ++ x ∷ []) z 0) q ∙ (last_of starts n x s.cells ∙ (r ∙ ap (start_of kept t 0 κ) (sym q))))
    step j t size k (inr lt) =
        ap (λ z. get_or z j 0) is
        ∙ (get_or_append_left starts (x ∷ []) 0 j (let c = s.cells in omega (arith, c, lt)) ∙ s.each j t size lt k)
