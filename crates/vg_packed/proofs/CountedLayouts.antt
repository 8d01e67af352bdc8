-- The numbers of a layout, also of what is not there.
use Rattle.std.proofs.Common.{◌≡◌, ◌⊎◌, refl, ap, ◌∙◌, arith, ℕ, zero, suc, ◌+◌, ◌<◌, ◌≤◌, ◌&&◌, Bool, true, false, List, [], ◌∷◌, length, get_or}
use Rattle.std.proofs.Common.{Option, Some, None, if◌then◌else◌}
use Rattle.std.proofs.lemmas.Option.{slice_get_past, get_or_from_slice_get}
use mathlib.Core.Logic.{inl, inr}
use Rattle.vg_core.specs.declared.program.Tables.{Tables}
use Rattle.vg_core.specs.Heap.{Kind, ObjectOf, ArrayOf}
use Rattle.vg_core.specs.Tables.{above_in, last_of, top, both_same}
use Rattle.vg_numbers.specs.Keys.{before, inside, class_key}
use Rattle.vg_numbers.specs.Numbers.{is_of_hierarchy, way_of, way, objects, beside, numbered, number, first, count}
use Rattle.vg_number.specs.declared.numbers.Numbers.{Numbers}
use Rattle.vg_number.specs.Numbering.{IsNumbering}
use Rattle.vg_packed.specs.Counted.{IsCounted}
use Rattle.vg_pack_code.specs.declared.plan.Plan.{Plan}
use Rattle.vg_pack_code.specs.Plans.{layout_by, first_in, first_by, count_of, count_in}

-- a number is below another or not
below_or_not : (i n : ℕ) → (i < n) ⊎ (n ≤ i)
below_or_not i zero = inr (omega arith)
below_or_not zero (suc n) = inl (omega arith)
below_or_not (suc i) (suc n) = by (below_or_not i n)
  where
    by : (i < n) ⊎ (n ≤ i) → (suc i < suc n) ⊎ (suc n ≤ suc i)
    by (inl a) = inl (omega (arith, a))
    by (inr a) = inr (omega (arith, a))

get_past : (ns : List ℕ) (i : ℕ) → length ns ≤ i → get_or ns i 0 ≡ 0
get_past [] i le = refl
get_past (n ∷ ns) zero le = absurd (omega (arith, le))
get_past (n ∷ ns) (suc i) le = get_past ns i (omega (arith, le))

-- no object is of no hierarchy
of_none : (p : Tables) (b : Bool) (a : Kind) → (b && is_of_hierarchy p None a) ≡ false
of_none p true (ObjectOf c) = by (top p c)
  where
    by : (o : Option ℕ) → both_same o None ≡ false
    by (Some n) = refl
    by None = refl
of_none p true (ArrayOf t n) = refl
of_none p false a = refl

none_beside : (p : Tables) (kept : ℕ → Bool) (at : ℕ) (κ : List Kind) → objects p None kept at κ ≡ []
none_beside p kept at [] = refl
none_beside p kept at (a ∷ κ) =
    ap (λ b. if b then record { way = way_of p a; cell = at } ∷ objects p None kept (suc at) κ else objects p None kept (suc at) κ) (of_none p (kept at) a)
    ∙ none_beside p kept (suc at) κ

module _ (p : Tables) (κ : List Kind) (kept : ℕ → Bool) (n : Numbers) (is : IsNumbering p κ kept n) where
  pub number_is : (j : ℕ) → get_or n.of_cell j 0 ≡ number p κ kept j
  number_is j = by (below_or_not j (length κ))
    where
      none : (b : Bool) → numbered p κ kept j b None ≡ 0
      none true = refl
      none false = refl

      by : (j < length κ) ⊎ (length κ ≤ j) → get_or n.of_cell j 0 ≡ number p κ kept j
      by (inl lt) = get_or_from_slice_get n.of_cell j (number p κ kept j) 0 (is.numbers j lt)
      by (inr le) =
          let l = is.cells in
          let a = get_past n.of_cell j (omega (arith, l, le)) in
          let b = ap (numbered p κ kept j (kept j)) (slice_get_past κ j le) ∙ none (kept j) in omega (arith, a, b)

  no_class : (c : ℕ) → length p.classes ≤ c → beside p κ kept c ≡ []
  no_class c le = ap (λ o. objects p (last_of (above_in o)) kept 0 κ) (slice_get_past p.classes c le) ∙ none_beside p kept 0 κ

  first_is : (c : ℕ) → first_by n.spans c ≡ first p κ kept c
  first_is c = by (below_or_not c (length p.classes))
    where
      by : (c < length p.classes) ⊎ (length p.classes ≤ c) → first_by n.spans c ≡ first p κ kept c
      by (inl lt) = ap first_in (is.spans c lt)
      by (inr le) =
          let l = is.classes in
          let a = ap first_in (slice_get_past n.spans c (omega (arith, l, le))) in
          let b = ap (λ os. 1 + before os (class_key (way p c))) (no_class c le) in omega (arith, a, b)

  count_is : (c : ℕ) → count_in n.spans c ≡ count p κ kept c
  count_is c = by (below_or_not c (length p.classes))
    where
      by : (c < length p.classes) ⊎ (length p.classes ≤ c) → count_in n.spans c ≡ count p κ kept c
      by (inl lt) = ap count_of (is.spans c lt)
      by (inr le) =
          let l = is.classes in
          let a = ap count_of (slice_get_past n.spans c (omega (arith, l, le))) in
          let b = ap (λ os. inside os (class_key (way p c))) (no_class c le) in omega (arith, a, b)

  pub counted : (x : Plan) → IsCounted p (layout_by κ n x) kept
  counted x = record { numbers = number_is; firsts = first_is; counts = count_is }
