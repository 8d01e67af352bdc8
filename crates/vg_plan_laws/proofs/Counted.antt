-- The numbers of a planned layout are those by counting.
use Rattle.std.proofs.Common.{◌≡◌, ◌⊎◌, refl, sym, ap, ◌∙◌, arith, ℕ, zero, suc, ◌<◌, ◌≤◌, ◌&&◌, nat_lt, Bool, true, false, List, [], ◌∷◌, length, get_or, Option, Some, None}
use Rattle.std.proofs.Common.{◌+◌, slice_get, if◌then◌else◌}
use Rattle.std.proofs.lemmas.Option.{slice_get_past, get_or_from_slice_get}
use mathlib.Core.Logic.{inl, inr}
use Rattle.vg_core.specs.declared.program.Tables.{Tables}
use Rattle.vg_core.specs.Heap.{Kind, ObjectOf, ArrayOf}
use Rattle.vg_core.specs.Tables.{above_in, last_of, top, both_same}
use Rattle.vg_numbers.specs.Keys.{class_key, before, inside}
use Rattle.vg_numbers.specs.Numbers.{way, is_of_hierarchy, way_of, objects, numbered, number, first, count}
use Rattle.vg_number.specs.declared.numbers.Numbers.{Numbers}
use Rattle.vg_number.specs.Numbering.{IsNumbering}
use Rattle.vg_packed.specs.Counted.{IsCounted}
use Rattle.vg_pack_code.specs.declared.plan.Plan.{Plan}
use Rattle.vg_pack_code.specs.Plans.{first_in, count_of, layout_by}

-- no class has objects of no hierarchy
none_of : (p : Tables) (kept : ℕ → Bool) (at : ℕ) (κ : List Kind) → objects p None kept at κ ≡ []
none_of p kept at [] = refl
none_of p kept at (a ∷ κ) = step (kept at) a (none_of p kept (suc at) κ)
  where
    none_same : (o : Option ℕ) → both_same o None ≡ false
    none_same (Some m) = refl
    none_same None = refl

    not_of : (a : Kind) → is_of_hierarchy p None a ≡ false
    not_of (ObjectOf c) = none_same (top p c)
    not_of (ArrayOf t size) = refl

    and_false : (b : Bool) → (b && false) ≡ false
    and_false true = refl
    and_false false = refl

    step : (b : Bool) (a : Kind) → objects p None kept (suc at) κ ≡ [] → (if b && is_of_hierarchy p None a then record { way = way_of p a; cell = at } ∷ objects p None kept (suc at) κ else objects p None kept (suc at) κ) ≡ []
    step b a rest =
        ap (λ z. if b && z then record { way = way_of p a; cell = at } ∷ objects p None kept (suc at) κ else objects p None kept (suc at) κ) (not_of a)
        ∙ (ap (λ z. if z then record { way = way_of p a; cell = at } ∷ objects p None kept (suc at) κ else objects p None kept (suc at) κ) (and_false b)
        ∙ rest)

pub within_or_past : (j n : ℕ) → (j < n) ⊎ (n ≤ j)
within_or_past j n = by (nat_lt j n) refl
  where
    by : (b : Bool) → nat_lt j n ≡ b → (j < n) ⊎ (n ≤ j)
    by true e = inl (grind (arith, e))
    by false e = inr (grind (arith, e))

get_past : (ns : List ℕ) (j : ℕ) → length ns ≤ j → get_or ns j 0 ≡ 0
get_past [] j le = refl
get_past (n ∷ ns) zero le = absurd (omega (arith, le))
get_past (n ∷ ns) (suc j) le = get_past ns j (omega (arith, le))

module _ (p : Tables) (κ : List Kind) (kept : ℕ → Bool) (n : Numbers) (x : Plan) (is : IsNumbering p κ kept n) where
  no_number : (j : ℕ) (b : Bool) → numbered p κ kept j b None ≡ 0
  no_number j true = refl
  no_number j false = refl

  number_is : (j : ℕ) → get_or n.of_cell j 0 ≡ number p κ kept j
  number_is j = by (within_or_past j (length κ))
    where
      by : (j < length κ) ⊎ (length κ ≤ j) → get_or n.of_cell j 0 ≡ number p κ kept j
      by (inl lt) = get_or_from_slice_get n.of_cell j (number p κ kept j) 0 (is.numbers j lt)
      by (inr le) =
          get_past n.of_cell j (let l = is.cells in omega (arith, le, l))
          ∙ sym (ap (numbered p κ kept j (kept j)) (slice_get_past κ j le) ∙ no_number j (kept j))

  no_top : (c : ℕ) → length p.classes ≤ c → top p c ≡ None
  no_top c le = ap (λ z. last_of (above_in z)) (slice_get_past p.classes c le)

  first_is : (c : ℕ) → first_in (slice_get n.spans c) ≡ first p κ kept c
  first_is c = by (within_or_past c (length p.classes))
    where
      by : (c < length p.classes) ⊎ (length p.classes ≤ c) → first_in (slice_get n.spans c) ≡ first p κ kept c
      by (inl lt) = ap first_in (is.spans c lt)
      by (inr le) =
          ap first_in (slice_get_past n.spans c (let l = is.classes in omega (arith, le, l)))
          ∙ sym (ap (λ z. 1 + before (objects p z kept 0 κ) (class_key (way p c))) (no_top c le) ∙ ap (λ z. 1 + before z (class_key (way p c))) (none_of p kept 0 κ))

  count_is : (c : ℕ) → count_of (slice_get n.spans c) ≡ count p κ kept c
  count_is c = by (within_or_past c (length p.classes))
    where
      by : (c < length p.classes) ⊎ (length p.classes ≤ c) → count_of (slice_get n.spans c) ≡ count p κ kept c
      by (inl lt) = ap count_of (is.spans c lt)
      by (inr le) =
          ap count_of (slice_get_past n.spans c (let l = is.classes in omega (arith, le, l)))
          ∙ sym (ap (λ z. inside (objects p z kept 0 κ) (class_key (way p c))) (no_top c le) ∙ ap (λ z. inside z (class_key (way p c))) (none_of p kept 0 κ))

  pub is_counted : IsCounted p (layout_by κ n x) kept
  is_counted = record { numbers = number_is; firsts = first_is; counts = count_is }

  -- what has a number is kept
  pub is_kept : (j : ℕ) → 0 < get_or n.of_cell j 0 → kept j ≡ true
  is_kept j h = by (kept j) refl (let e = number_is j in omega (arith, h, e))
    where
      by : (b : Bool) → kept j ≡ b → 0 < numbered p κ kept j b (slice_get κ j) → kept j ≡ true
      by true e g = e
      by false e g = absurd (omega (arith, g))
