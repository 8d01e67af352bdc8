-- Intervals by classes: a sum over the objects is one over the classes, each as often as it has objects.
use Rattle.std.proofs.Common.{◌≡◌, ◌⊎◌, refl, sym, ap, subst, ◌∙◌, arith, ℕ, zero, suc, ◌+◌, ◌-◌, ◌<◌, ◌≤◌, ◌==◌, ◌&&◌, Bool, true, false, List, []}
use Rattle.std.proofs.Common.{◌∷◌, length, map, get_or, replicate}
use Rattle.std.proofs.Common.{Option, Some, None, slice_get, if◌then◌else◌}
use Rattle.std.proofs.lemmas.Option.{get_or_from_slice_get}
use Rattle.std.proofs.lemmas.List.{length-map, length-replicate, get_or-replicate, get_or-map}
use Rattle.std.proofs.lemmas.Bool.Decides.{eqb_tells}
use mathlib.Core.Logic.{inl, inr}
use Rattle.vg_core.specs.declared.program.Tables.{Tables}
use Rattle.vg_core.specs.declared.heap.Cell.{Cell}
use Rattle.vg_core.specs.Heap.{Kind, ObjectOf, ArrayOf, kind_of}
use Rattle.vg_live.specs.declared.live_set.Reason.{Reason}
use Rattle.vg_core.specs.Tables.{top, both_same}
use Rattle.vg_numbers.specs.Keys.{Where, Earlier, Inside, Later, place, class_key, Object, key, is_earlier, is_inside, before, inside}
use Rattle.vg_numbers.specs.Numbers.{AreChains, way, is_of_hierarchy, way_of, objects, one_if, arrays_before, numbered, number, first}
use Rattle.vg_numbers.proofs.Numbers.{few}
use Rattle.vg_number.specs.declared.numbers.Span.{Span}
use Rattle.vg_number.specs.Counts.{Counts, counts}
use Rattle.vg_number.specs.Numbering.{has_reason, AreListed, AreFew, span, IsNumbering}
use Rattle.vg_number.specs.Counting.{holds_in, stands_earlier, stands_inside, is_before, is_within, stand, is_object_of, own_before, summed, HasCounted, handed}
use Rattle.vg_number.specs.Counting.{HasRoom, HaveRoom, HasWalked, AreOwn, AreSmall, span_by, AreSpansBy, AreSpans, first_of, AreNumbers}
use Rattle.vg_number.proofs.Own.{lifted, number_own}

-- ---- sums

if_zero : (b : Bool) (x : ℕ) → x ≡ 0 → (if b then x else 0) ≡ 0
if_zero true x e = e
if_zero false x e = refl

summed_zero : (b : ℕ → Bool) (n : ℕ) → summed b (λ d. 0) n ≡ 0
summed_zero b zero = refl
summed_zero b (suc n) = let h = summed_zero b n in let z = if_zero (b n) 0 refl in omega (arith, h, z)

summed_both : (b : ℕ → Bool) (f g : ℕ → ℕ) (n : ℕ) → summed b (λ d. f d + g d) n ≡ summed b f n + summed b g n
summed_both b f g zero = refl
summed_both b f g (suc n) = let h = summed_both b f g n in let z = halves (b n) (f n) (g n) in omega (arith, h, z)
  where
    halves : (c : Bool) (x y : ℕ) → (if c then x + y else 0) ≡ (if c then x else 0) + (if c then y else 0)
    halves true x y = refl
    halves false x y = refl

pub summed_same : (b : ℕ → Bool) (f g : ℕ → ℕ) (n : ℕ) → ((d : ℕ) → d < n → f d ≡ g d) → summed b f n ≡ summed b g n
summed_same b f g zero h = refl
summed_same b f g (suc n) h =
    let r = summed_same b f g n (λ d lt. h d (omega (arith, lt))) in
    let z = ap (λ x. if b n then x else 0) (h n (omega arith)) in omega (arith, r, z)

summed_past : (b : ℕ → Bool) (c n : ℕ) → n ≤ c → summed b (λ d. one_if (c == d)) n ≡ 0
summed_past b c zero le = refl
summed_past b c (suc n) le =
    let h = summed_past b c n (omega (arith, le)) in
    let e : (c == n) ≡ false = grind (arith, le) in
    let z = if_zero (b n) (one_if (c == n)) (ap one_if e) in omega (arith, h, z)

summed_one : (b : ℕ → Bool) (c n : ℕ) → c < n → summed b (λ d. one_if (c == d)) n ≡ one_if (b c)
summed_one b c zero lt = absurd (omega (arith, lt))
summed_one b c (suc n) lt = step (eqb_tells c n) (summed_one b c n)
  where
    ones : (x : Bool) → (if x then 1 else 0) ≡ one_if x
    ones true = refl
    ones false = refl

    step : (((c == n) ≡ true) × (c ≡ n)) ⊎ (((c == n) ≡ false) × ((c ≡ n) → ⊥)) → (c < n → summed b (λ d. one_if (c == d)) n ≡ one_if (b c))
        → summed b (λ d. one_if (c == d)) n + (if b n then one_if (c == n) else 0) ≡ one_if (b c)
    step (inl (e, q)) again =
        let h = summed_past b c n (omega (arith, q)) in
        let z : (if b n then one_if (c == n) else 0) ≡ one_if (b c) = ap (λ x. if b n then one_if x else 0) e ∙ (ones (b n) ∙ ap (λ x. one_if (b x)) (sym q)) in
        omega (arith, h, z)
    step (inr (e, q)) again =
        let h = again (omega (arith, lt, q)) in let z = if_zero (b n) (one_if (c == n)) (ap one_if e) in omega (arith, h, z)

-- ---- one cell of a kind

-- what a cell adds to a sum over classes
abbrev weight : (b : ℕ → Bool) → (kept : Bool) → Kind → ℕ
weight b true (ObjectOf d) = one_if (b d)
weight b true (ArrayOf t size) = 0
weight b false a = 0

one_cell : (b : ℕ → Bool) (k : Bool) (a : Kind) (n : ℕ) → ((d : ℕ) → a ≡ ObjectOf d → d < n) → summed b (λ d. one_if (k && is_object_of d a)) n ≡ weight b k a
one_cell b false a n there = summed_zero b n
one_cell b true (ArrayOf t size) n there = summed_zero b n
one_cell b true (ObjectOf d) n there = summed_one b d n (there d refl)

at_most_one : (b : ℕ → Bool) (k : Bool) (a : Kind) → weight b k a ≤ 1
at_most_one b false a = omega arith
at_most_one b true (ArrayOf t size) = omega arith
at_most_one b true (ObjectOf d) = step (b d)
  where
    step : (x : Bool) → one_if x ≤ 1
    step true = omega arith
    step false = omega arith

-- ---- the objects that stand so against a class

abbrev tallied : (Where → Bool) → List Object → List ℕ → ℕ
tallied g [] k = 0
tallied g (o ∷ os) k = one_if (g (place k (key o))) + tallied g os k

before_tallied : (os : List Object) (k : List ℕ) → before os k ≡ tallied stands_earlier os k
before_tallied [] k = refl
before_tallied (o ∷ os) k = step (place k (key o)) (before_tallied os k)
  where
    step : (w : Where) → before os k ≡ tallied stands_earlier os k
        → is_earlier w + before os k ≡ one_if (stands_earlier w) + tallied stands_earlier os k
    step Earlier h = omega (arith, h)
    step Inside h = omega (arith, h)
    step Later h = omega (arith, h)

inside_tallied : (os : List Object) (k : List ℕ) → inside os k ≡ tallied stands_inside os k
inside_tallied [] k = refl
inside_tallied (o ∷ os) k = step (place k (key o)) (inside_tallied os k)
  where
    step : (w : Where) → inside os k ≡ tallied stands_inside os k
        → is_inside w + inside os k ≡ one_if (stands_inside w) + tallied stands_inside os k
    step Earlier h = omega (arith, h)
    step Inside h = omega (arith, h)
    step Later h = omega (arith, h)

module _ (p : Tables) (kept : ℕ → Bool) (c : ℕ) (g : Where → Bool) where
  -- what one cell adds
  adds : (k : Bool) (a : Kind) (at : ℕ) (rest : List Object)
      → tallied g (if k && is_of_hierarchy p (top p c) a then record { way = way_of p a; cell = at } ∷ rest else rest) (class_key (way p c))
      ≡ weight (λ d. holds_in g (stand p c d)) k a + tallied g rest (class_key (way p c))
  adds false a at rest = omega arith
  adds true (ArrayOf t size) at rest = omega arith
  adds true (ObjectOf d) at rest = step (both_same (top p d) (top p c))
    where
      step : (b : Bool) → tallied g (if b then record { way = way p d; cell = at } ∷ rest else rest) (class_key (way p c))
          ≡ one_if (holds_in g (if b then Some (place (way p c) (way p d)) else None)) + tallied g rest (class_key (way p c))
      step false = omega arith
      step true = ap (λ w. one_if (g w) + tallied g rest (class_key (way p c))) (lifted (way p c) (way p d) at)

  pub by_classes : (n at : ℕ) (κ : List Kind) → ((j d : ℕ) → slice_get κ j ≡ Some (ObjectOf d) → d < n)
      → tallied g (objects p (top p c) kept at κ) (class_key (way p c))
      ≡ summed (λ d. holds_in g (stand p c d)) (λ d. own_before d kept at κ (length κ)) n
  by_classes n at [] there = sym (summed_zero (λ d. holds_in g (stand p c d)) n)
  by_classes n at (a ∷ κ) there =
      let h = by_classes n (suc at) κ (λ j d e. there (suc j) d e) in
      let x = adds (kept at) a at (objects p (top p c) kept (suc at) κ) in
      let s = summed_both (λ d. holds_in g (stand p c d)) (λ d. one_if (kept at && is_object_of d a)) (λ d. own_before d kept (suc at) κ (length κ)) n in
      let o = one_cell (λ d. holds_in g (stand p c d)) (kept at) a n (λ d e. there 0 d (ap Some e)) in
      omega (arith, h, x, s, o)

-- sums of counts are at most the number of cells
summed_few : (b : ℕ → Bool) (kept : ℕ → Bool) (n at : ℕ) (κ : List Kind) → ((j d : ℕ) → slice_get κ j ≡ Some (ObjectOf d) → d < n)
    → summed b (λ d. own_before d kept at κ (length κ)) n ≤ length κ
summed_few b kept n at [] there = let z = summed_zero b n in omega (arith, z)
summed_few b kept n at (a ∷ κ) there =
    let h = summed_few b kept n (suc at) κ (λ j d e. there (suc j) d e) in
    let s = summed_both b (λ d. one_if (kept at && is_object_of d a)) (λ d. own_before d kept (suc at) κ (length κ)) n in
    let o = one_cell b (kept at) a n (λ d e. there 0 d (ap Some e)) in
    let m = at_most_one b (kept at) a in omega (arith, h, s, o, m)

summed_front : (b : ℕ → Bool) (f : ℕ → ℕ) (m n : ℕ) → summed b f m ≤ summed b f (m + n)
summed_front b f m zero = let e = ap (summed b f) (plus m) in omega (arith, e)
  where
    plus : (k : ℕ) → k + 0 ≡ k
    plus k = omega arith
summed_front b f m (suc n) =
    let e : m + suc n ≡ suc (m + n) = omega arith in let s = ap (summed b f) e in let h = summed_front b f m n in omega (arith, h, s)

-- ---- what the counts give

module _ (p : Tables) (κ : List Kind) (kept : ℕ → Bool) (listed : AreListed p κ) (few_cells : AreFew κ) (own : List ℕ) (is : AreOwn κ kept (length
    p.classes) own) where
  there : (j d : ℕ) → slice_get κ j ≡ Some (ObjectOf d) → d < length p.classes
  there j d e = listed j (ObjectOf d) e

  as_counted : (b : ℕ → Bool) → summed b (λ d. get_or own d 0) (length own) ≡ summed b (λ d. own_before d kept 0 κ (length κ)) (length p.classes)
  as_counted b =
      ap (summed b (λ d. get_or own d 0)) is.classes_
      ∙ summed_same b (λ d. get_or own d 0) (λ d. own_before d kept 0 κ (length κ)) (length p.classes) is.counts

  pub are_small : AreSmall own
  are_small b n le =
      let a = as_counted b in
      let f = summed_few b kept (length p.classes) 0 κ there in
      let q : n + (length own - n) ≡ length own = omega (arith, le) in
      let s = summed_front b (λ d. get_or own d 0) n (length own - n) in
      let w = ap (summed b (λ d. get_or own d 0)) q in omega (arith, a, f, s, w, few_cells)

  pub are_spans : (spans : List Span) → AreSpansBy p own spans → AreSpans p κ kept spans
  are_spans spans h = record {
    classes_ = h.classes_ ∙ is.classes_;
    each = λ c lt. h.each c (let e = is.classes_ in omega (arith, lt, e)) ∙ ap Some (same c);
  }
    where
      same : (c : ℕ) → span_by p own c ≡ span p κ kept c
      same c =
          ap (λ x. record { first = 1 + x; count = (span_by p own c).count })
          (as_counted (λ d. is_before (stand p c d)) ∙ (sym (by_classes p kept c stands_earlier (length p.classes) 0 κ there)
          ∙ sym (before_tallied (objects p (top p c) kept 0 κ) (class_key (way p c)))))
          ∙ ap (λ x. record { first = first p κ kept c; count = x })
          (as_counted (λ d. is_within (stand p c d)) ∙ (sym (by_classes p kept c stands_inside (length p.classes) 0 κ there)
          ∙ sym (inside_tallied (objects p (top p c) kept 0 κ) (class_key (way p c)))))

-- ---- the two walks

is_there : {A : Type 0} (xs : List A) (i : ℕ) → i < length xs → (x : A) × (slice_get xs i ≡ Some x)
is_there [] i lt = absurd (omega (arith, lt))
is_there (x ∷ xs) zero lt = (x, refl)
is_there (x ∷ xs) (suc i) lt = is_there xs i (omega (arith, lt))

module _ (p : Tables) (chains : AreChains p) (κ : List Kind) (kept : ℕ → Bool) (listed : AreListed p κ) (few_cells : AreFew κ) where
  object_number : (n d : ℕ) → slice_get κ n ≡ Some (ObjectOf d) → kept n ≡ true → number p κ kept n ≡ first p κ kept d + own_before d kept 0 κ n
  object_number n d e ks = let k = is_there p.classes d (listed n (ObjectOf d) e) in number_own p chains κ kept n d k.0 k.1 e ks

  array_number : (n t size : ℕ) → slice_get κ n ≡ Some (ArrayOf t size) → kept n ≡ true → number p κ kept n ≡ 1 + arrays_before t kept 0 κ n
  array_number n t size e ks = ap (λ b. numbered p κ kept n b (slice_get κ n)) ks ∙ ap (numbered p κ kept n true) e

  pub have_room : (begun : Counts) → length begun.objects ≡ length p.classes → length begun.arrays ≡ length p.types
      → ((d : ℕ) → d < length p.classes → get_or begun.objects d 0 ≤ first p κ kept d)
      → ((t : ℕ) → t < length p.types → get_or begun.arrays t 0 ≤ 1) → HaveRoom κ kept begun
  have_room begun lo la ho ha n a now e h = step (kept n) refl a e
    where
      step : (b : Bool) → kept n ≡ b → (x : Kind) → slice_get κ n ≡ Some x → HasRoom b x now
      step false q x ex = tt
      step true q (ObjectOf d) ex =
          let lt = listed n (ObjectOf d) ex in let cl = h.classes in (
            omega (arith, lt, cl, lo),
            (let o = h.objects d (omega (arith, lt, lo)) in let f = ho d lt in
                let m = object_number n d ex q in let w = few p κ kept n in omega (arith, o, f, m, w, few_cells)),
          )
      step true q (ArrayOf t size) ex =
          let lt = listed n (ArrayOf t size) ex in let ty = h.types in (
            omega (arith, lt, ty, la),
            (let o = h.arrays t (omega (arith, lt, la)) in let f = ha t lt in
                let m = array_number n t size ex q in let w = few p κ kept n in omega (arith, o, f, m, w, few_cells)),
          )

  -- the first walk counts
  pub room_to_count : (objects arrays : List ℕ) (begun : Counts) → begun ≡ counts objects arrays → objects ≡ replicate (length p.classes) 0
      → arrays ≡ replicate (length p.types) 0 → HaveRoom κ kept begun
  room_to_count objects arrays begun eb eo ea =
      subst (HaveRoom κ kept) (sym eb)
      (subst (λ z. HaveRoom κ kept (counts z arrays)) (sym eo) (subst (λ z. HaveRoom κ kept (counts (replicate (length p.classes) 0) z)) (sym ea)
      (have_room (counts (replicate (length p.classes) 0) (replicate (length p.types) 0)) (length-replicate (length p.classes) 0)
      (length-replicate (length p.types) 0)
      (λ d lt. let z = get_or-replicate {A = ℕ} (length p.classes) d 0 0 lt in omega (arith, z))
      (λ t lt. let z = get_or-replicate {A = ℕ} (length p.types) t 0 0 lt in omega (arith, z)))))

  pub are_own : (objects arrays of_cell own : List ℕ) (begun now : Counts) (n : ℕ) → n ≡ length κ → begun ≡ counts objects arrays
      → objects ≡ replicate (length p.classes) 0 → HasWalked κ kept begun n of_cell now → own ≡ now.objects → AreOwn κ kept (length p.classes) own
  are_own objects arrays of_cell own begun now n en eb eo walked e = record {
    classes_ = ap length e ∙ (h.counters.classes ∙ lo);
    counts = λ d lt. let g = h.counters.objects d (omega (arith, lt, lo)) in
        let z : get_or objects d 0 ≡ 0 = ap (λ x. get_or x d 0) eo ∙ get_or-replicate (length p.classes) d 0 0 lt in
        let w = ap (λ x. get_or x d 0) e in
        let m = ap (own_before d kept 0 κ) en in omega (arith, g, z, w, m);
  }
    where
      h : HasWalked κ kept (counts objects arrays) n of_cell now
      h = subst (λ z. HasWalked κ kept z n of_cell now) eb walked

      lo : length objects ≡ length p.classes
      lo = ap length eo ∙ length-replicate (length p.classes) 0

  -- the second one hands out
  module _ (spans : List Span) (are : AreSpans p κ kept spans) (objects arrays : List ℕ) (eo : objects ≡ map first_of spans)
      (ea : arrays ≡ replicate (length p.types) 1) where
    firsts : length objects ≡ length p.classes
    firsts = ap length eo ∙ (length-map spans first_of ∙ are.classes_)

    types : length arrays ≡ length p.types
    types = ap length ea ∙ length-replicate (length p.types) 1

    begun_object : (d : ℕ) → d < length p.classes → get_or objects d 0 ≡ first p κ kept d
    begun_object d lt =
        ap (λ x. get_or x d 0) eo
        ∙ (get_or-map first_of spans d (span p κ kept d) 0 (let e = are.classes_ in omega (arith, lt, e))
        ∙ ap first_of (get_or_from_slice_get spans d (span p κ kept d) (span p κ kept d) (are.each d lt)))

    begun_array : (t : ℕ) → t < length p.types → get_or arrays t 0 ≡ 1
    begun_array t lt = ap (λ x. get_or x t 0) ea ∙ get_or-replicate (length p.types) t 1 0 lt

    pub room_to_hand_out : (begun : Counts) → begun ≡ counts objects arrays → HaveRoom κ kept begun
    room_to_hand_out begun eb =
        subst (HaveRoom κ kept) (sym eb)
        (have_room (counts objects arrays) firsts types (λ d lt. let z = begun_object d lt in omega (arith, z)) (λ t lt. let z = begun_array t lt in
        omega (arith, z)))

    pub are_numbers : (of_cell : List ℕ) (begun now : Counts) (n : ℕ) → n ≡ length κ → begun ≡ counts objects arrays → HasWalked κ kept begun n of_cell now
        → AreNumbers p κ kept of_cell
    are_numbers of_cell begun now n en eb walked = record {
      cells = h.cells ∙ en;
      each = λ j lt. let g = h.each j (omega (arith, lt, en)) in g.2 ∙ ap Some (same j g.0 g.1 (kept j) refl (slice_get κ j) refl);
    }
      where
        h : HasWalked κ kept (counts objects arrays) n of_cell now
        h = subst (λ z. HasWalked κ kept z n of_cell now) eb walked

        same : (j : ℕ) (then_ : Counts) → HasCounted κ kept (counts objects arrays) j then_ → (b : Bool) → kept j ≡ b → (o : Option Kind)
            → slice_get κ j ≡ o → handed b o then_ ≡ numbered p κ kept j b o
        same j then_ c false ks o e = refl
        same j then_ c true ks None e = refl
        same j then_ c true ks (Some (ObjectOf d)) e =
            let lt = listed j (ObjectOf d) e in
            let g = c.objects d (omega (arith, lt, firsts)) in let b = begun_object d lt in let m = object_number j d e ks in
            let z : number p κ kept j ≡ numbered p κ kept j true (Some (ObjectOf d)) =
            ap (λ x. numbered p κ kept j x (slice_get κ j)) ks ∙ ap (numbered p κ kept j true) e in
            omega (arith, g, b, m, z)
        same j then_ c true ks (Some (ArrayOf t size)) e =
            let lt = listed j (ArrayOf t size) e in
            let g = c.arrays t (omega (arith, lt, types)) in let b = begun_array t lt in omega (arith, g, b)

-- the next summand fits
pub sum_fits : (own : List ℕ) → AreSmall own → (b : ℕ → Bool) (i e : ℕ) → i < length own → b i ≡ true → e ≡ summed b (λ d. get_or own d 0) i
    → e + get_or own i 0 < 65536
sum_fits own small b i e lt h is =
    let s = small b (suc i) (omega (arith, lt)) in
    let z : (if b i then get_or own i 0 else 0) ≡ get_or own i 0 = ap (λ x. if x then get_or own i 0 else 0) h in
    omega (arith, s, z, is)

-- what both walks made is the numbering
pub numbering : (p : Tables) (cells cells1 : List Cell) (reasons reasons1 : List (Option Reason)) (spans : List Span) (of_cell : List ℕ) → cells1 ≡ cells
    → reasons1 ≡ reasons → AreSpans p (map kind_of cells1) (has_reason reasons1) spans → AreNumbers p (map kind_of cells1) (has_reason reasons1) of_cell
    → IsNumbering p (map kind_of cells) (has_reason reasons) (record { of_cell = of_cell; spans = spans })
numbering p cells cells1 reasons reasons1 spans of_cell ec er s n =
    subst (λ z. IsNumbering p (map kind_of z) (has_reason reasons) (record { of_cell = of_cell; spans = spans })) ec
    (subst (λ z. IsNumbering p (map kind_of cells1) (has_reason z) (record { of_cell = of_cell; spans = spans })) er
    (record { cells = n.cells; classes = s.classes_; numbers = n.each; spans = s.each }))
